-- Statements about the square board. Each is a type whose proof is owed. Assumes nothing.
use Rattle.std.specs.Prelude.{◌≡◌, ℕ, ◌<◌, true, List, length, slice_index}
use Rattle.std.specs.List.{Contains}
use Rattle.grid.specs.Graph.{Near, Graph}
use Rattle.grid.specs.Grid.{points, near}
use Rattle.grid.specs.Neighbours.{HandsOut, slots, hand, neighbours_of}

-- the square board is a board of the general kind
unfoldable pub SquareGraph : Type 0
SquareGraph = (w h : ℕ) → Graph (points w h) (near w h)

-- its neighbours are handed out exactly
unfoldable pub SquareHandsOut : Type 0
SquareHandsOut = (w h : ℕ) → HandsOut (near w h) (slots w h) (hand w h)

-- a list has the neighbours of a point: all of them, nothing else, none twice, the smaller point first
pub record Lists (near : Near) (p : ℕ) (listed : List ℕ) : Type 0 where
  pub sound : (q : ℕ) → Contains listed q → near p q ≡ true
  pub complete : (q : ℕ) → near p q ≡ true → Contains listed q
  pub ordered : (i j : ℕ) → i < j → j < length listed → slice_index listed i < slice_index listed j

-- and so has the list that an iterator over them gives
unfoldable pub SquareLists : Type 0
SquareLists = (w h p : ℕ) → Lists (near w h) p (neighbours_of w h p)
