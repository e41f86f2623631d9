-- The part of a list that is a row.
use Rattle.std.proofs.Common.{◌≡◌, ℕ, ◌+◌, ◌-◌, ◌≤◌, min, List, length, take, drop, sym, ap, ◌∙◌, inl, inr, arith, length-drop}
use Rattle.std.proofs.lemmas.List.{take_all, drop_all}
use Rattle.std.proofs.lemmas.Bool.{cases_lt}

-- a part that stops where the list stops is what the list has of it
pub part : (xs : List ℕ) (a w from to : ℕ) → from ≡ min a (length xs) → to ≡ min (from + w) (length xs) → take (to - from) (drop from xs) ≡ take w (drop a xs)
part xs a w from to e f =
    elim (cases_lt (length xs) a) [
      | inl past ↦
          let none : drop from xs ≡ drop a xs = drop_all from xs (omega arith) ∙ sym (drop_all a xs (omega arith)) in
          let nothing : length (drop a xs) ≤ 0 = omega (arith, length-drop a xs) in
          ap (take (to - from)) none ∙ (take_all (to - from) (drop a xs) (omega arith) ∙ sym (take_all w (drop a xs) (omega arith)))
      | inr within ↦
          let same : from ≡ a = omega arith in
          let rest = length-drop a xs in
          elim (cases_lt (length xs - a) w) [
            | inl short ↦ ap (λ i. take (to - from) (drop i xs)) same ∙ (take_all (to - from) (drop a xs) (omega arith) ∙ sym (take_all w (drop a xs) (omega arith)))
            | inr full ↦ let whole : to - from ≡ w = omega arith in ap (λ i. take (to - from) (drop i xs)) same ∙ ap (λ k. take k (drop a xs)) whole
          ]
    ]
