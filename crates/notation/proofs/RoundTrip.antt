-- What is written is read again, and what is read is written again.
use Rattle.std.proofs.Common.{◌≡◌, ℕ, ◌-◌, ◌*◌, ◌≤◌, true, List, [], ◌∷◌, length, get_or, take, drop, Some, None, Ok, Err, Result, sym, refl, ap, ◌∙◌, ap₂, arith, length-append, length-drop}
use Rattle.std.proofs.lemmas.List.{take_at}
use Rattle.std.proofs.lemmas.Bool.Decides.{nat_tests}
use Rattle.std.specs.List.{prefix_len}
use Rattle.grid.specs.Grid.{points}
use Rattle.grid.specs.Sizes.{side_fits}
use Rattle.grid.specs.Refusals.{listed}
use Rattle.grid.specs.declared.refusal.Refusal.{Refusal}
use Rattle.grid.specs.declared.size.Size.{Size}
use Rattle.chains.specs.Views.{is_point}
use Rattle.notation.specs.Layout.{width_of, height_of, size_points, cells_of, calm_front, board_refusal, BoardRead}
use Rattle.notation.specs.Written.{write_refusal, board_bytes}

-- what the list says of bytes that it does not turn away
record Good (bytes : List ℕ) (lent : ℕ) : Type 0 where
  wide : side_fits (width_of bytes) ≡ true
  high : side_fits (height_of bytes) ≡ true
  enough : size_points bytes ≤ lent
  count : length bytes - 2 ≡ size_points bytes
  points : size_points bytes ≤ prefix_len is_point (cells_of bytes)
  calm : size_points bytes ≤ calm_front (width_of bytes) (height_of bytes) (cells_of bytes)

good : (bytes : List ℕ) (lent : ℕ) → board_refusal bytes lent ≡ None → Good bytes lent
good bytes lent e = record { wide = grind (arith, nat_tests); high = grind (arith, nat_tests); enough = grind (arith, nat_tests); count = grind (arith, nat_tests); points = grind (arith, nat_tests); calm = grind (arith, nat_tests) }

-- bytes by the first two and the rest
two_first : (bytes : List ℕ) → 2 ≤ length bytes → get_or bytes 0 0 ∷ (get_or bytes 1 0 ∷ drop 2 bytes) ≡ bytes
two_first [] l = absurd (omega arith)
two_first (a ∷ []) l = absurd (omega arith)
two_first (a ∷ (b ∷ cs)) l = refl

-- a board that was read is written as the bytes it was read from
pub rewritten : (bytes before after : List ℕ) (size : Size) → BoardRead bytes before size after → (write_refusal size.width size.height after ≡ None) × (board_bytes size.width size.height after ≡ bytes)
rewritten bytes before after size r = (none, same)
  where
    g : Good bytes (length before)
    g = good bytes (length before) r.good

    n : ℕ
    n = points size.width size.height

    n_is : n ≡ size_points bytes
    n_is = ap₂ (λ (w h : ℕ). w * h) r.width r.height

    cells_length : length (cells_of bytes) ≡ n
    cells_length = length-drop 2 bytes ∙ (g.count ∙ sym n_is)

    front : take n after ≡ cells_of bytes
    front = ap (take n) r.holds ∙ take_at (cells_of bytes) (drop (size_points bytes) before) n cells_length

    long : n ≤ length after
    long = omega (arith, ap length r.holds ∙ length-append (cells_of bytes) (drop (size_points bytes) before), cells_length)

    all_good : n ≤ prefix_len is_point (take n after)
    all_good = omega (arith, g.points, n_is, ap (prefix_len is_point) front)

    calm : n ≤ calm_front size.width size.height (take n after)
    calm = rw (front, r.width, r.height) g.calm

    none : write_refusal size.width size.height after ≡ None
    none = let l = long in let a = all_good in let c = calm in grind (arith, nat_tests)

    same : board_bytes size.width size.height after ≡ bytes
    same =
        let l : 2 ≤ length bytes = omega (arith, g.count, n_is, size.few) in
        let t = two_first bytes l in
        let f = front in
        cc (r.width, r.height)

-- so it is with the answer of reading
pub read_known : (bytes before after : List ℕ) (answer : Result Size Refusal) →
    elim answer as (λ _. Type 0) [ Ok size ↦ BoardRead bytes before size after | Err e ↦ (board_refusal bytes (length before) ≡ Some (listed e)) × (after ≡ before) ] →
    elim answer as (λ _. Type 0) [
      | Ok size ↦ BoardRead bytes before size after × (write_refusal size.width size.height after ≡ None) × (board_bytes size.width size.height after ≡ bytes)
      | Err e ↦ (board_refusal bytes (length before) ≡ Some (listed e)) × (after ≡ before)
    ]
read_known bytes before after (Ok size) r = let w = rewritten bytes before after size r in (r, w.0, w.1)
read_known bytes before after (Err e) r = r
