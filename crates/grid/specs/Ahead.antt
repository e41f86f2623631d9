-- What an iterator over the neighbours of a point has still to give. Assumes nothing: these are definitions.
use Rattle.std.specs.Prelude.{ℕ, ◌-◌, List, None, slice_index_or}
use Rattle.grid.specs.declared.neighbours.Neighbours.{Neighbours}
use Rattle.grid.specs.Neighbours.{handed}

-- the neighbours with the numbers that were not looked at yet
abbrev pub ahead : Neighbours → List ℕ
ahead s = handed (λ k. slice_index_or s.numbered k None) s.next (4 - s.next)
