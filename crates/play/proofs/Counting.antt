-- Counting the stones that were taken.
use Rattle.std.proofs.Common.{◌≡◌, ℕ, zero, suc, ◌+◌, ◌<◌, ◌≤◌, Bool, true, false, ◌&&◌, eqb, ◌⊎◌, List, length, get_or, take, sym, refl, ap, ◌∙◌, subst, inl, inr, add-one, arith}
use Rattle.std.specs.List.{count_by, zip}
use Rattle.std.proofs.lemmas.Bool.{both_ways, cases_Bool, eqb-true, eq-eqb, lt-ltb}
use Rattle.std.proofs.lemmas.List.{take_all, get_or-take, length-take-le}
use Rattle.std.proofs.lemmas.List.Sums.{count_by_more_yes, count_by_more_no}
use Rattle.std.proofs.lemmas.Slice.Zip.{length-zip, get_or-zip}
use Rattle.grid.specs.declared.size.Size.{Size}
use Rattle.chains.specs.Board.{pick, none, mine, yours}
use Rattle.chains.specs.Computed.{is_state, one_if, count}
use Rattle.chains.specs.Sized.{count_of}
use Rattle.chains.specs.Views.{stone_byte, other, is_point, view}
use Rattle.chains.specs.declared.colour.Colour.{Colour}
use Rattle.chains.specs.declared.position.Position.{Position}
use Rattle.chains.proofs.States.{is_state_true, state_is}
use Rattle.chains.proofs.Views.{empty_byte, byte_none, view_none}
use Rattle.play.specs.Steps.{byte_taken}
use Rattle.play.specs.Stone.{is_taken}

-- the elements that pass, by their indices
count_front : {X : Type 0} (p : X → Bool) (d : X) (xs : List X) (n : ℕ) → n ≤ length xs → count_by p (take n xs) ≡ count (λ q. p (get_or xs q d)) n
unfolding count
count_front p d xs zero l = refl
count_front p d xs (suc n) l = rw (← add-one n) (elim (cases_Bool (p (get_or xs n d))) [
  | inl e ↦ count_by_more_yes p xs n d (omega arith) e ∙ rw e (omega (arith, count_front p d xs n (omega arith)))
  | inr e ↦ count_by_more_no p xs n d (omega arith) e ∙ rw e (omega (arith, count_front p d xs n (omega arith)))
])

-- tests that agree below n pass as many points
count_same : (t u : ℕ → Bool) (n : ℕ) → ((p : ℕ) → p < n → t p ≡ u p) → count t n ≡ count u n
unfolding count
count_same t u zero f = refl
count_same t u (suc n) f = rw (f n (omega arith)) (ap (λ (k : ℕ). one_if (u n) + k) (count_same t u n (λ p l. f p (omega arith))))

picked_mine : (x y : Bool) → x ≡ is_state mine (pick x mine (pick y yours none))
picked_mine true y = refl
picked_mine false true = refl
picked_mine false false = refl

-- the byte of a stone of the side that looks
mine_test : (n : ℕ) (bytes : List ℕ) (c : Colour) (p : ℕ) → p < n → eqb (get_or bytes p 0) (stone_byte c) ≡ is_state mine (view n bytes c p)
mine_test n bytes c p l = rw (lt-ltb p n l) (picked_mine (eqb (get_or bytes p 0) (stone_byte c)) (eqb (get_or bytes p 0) (stone_byte (other c))))

-- the byte of an empty point
none_test : (n : ℕ) (bytes : List ℕ) (c : Colour) (p : ℕ) → p < n → is_point (get_or bytes p 0) ≡ true → eqb (get_or bytes p 0) 46 ≡ is_state none (view n bytes c p)
none_test n bytes c p l g = join (cases_Bool (is_state none (view n bytes c p)))
  where
    join : (is_state none (view n bytes c p) ≡ true) ⊎ (is_state none (view n bytes c p) ≡ false) → eqb (get_or bytes p 0) 46 ≡ is_state none (view n bytes c p)
    join (inl e) = eq-eqb (get_or bytes p 0) 46 (empty_byte (get_or bytes p 0) g (view_none n bytes c p l (is_state_true none (view n bytes c p) e))) ∙ sym e
    join (inr e) = elim (cases_Bool (eqb (get_or bytes p 0) 46)) [
      | inl t ↦ absurd (both_ways (is_state none (view n bytes c p)) e (state_is none (view n bytes c p)
          (rw (lt-ltb p n l) (byte_none c (get_or bytes p 0) (rw (eqb-true (get_or bytes p 0) 46 t) refl)))))
      | inr f ↦ f ∙ sym e
    ]

-- the bytes of stones of that colour that became those of empty points are its stones that left the board
pub counted : (before after : Position) (colour : Colour) {k : ℕ} → k ≡ count_of before.size → after.size ≡ before.size → length before.cells ≡ 361 → length after.cells ≡ 361 →
    count_by (λ (p : ℕ × ℕ). byte_taken (stone_byte colour) p.0 p.1) (zip (take k before.cells) (take k after.cells))
    ≡ count (λ p. is_taken (view (count_of before.size) before.cells colour p) (view (count_of before.size) after.cells colour p)) (count_of before.size)
counted before after colour {k} e s l m =
    ap (λ (i : ℕ). count_by pair_taken (zip (take i before.cells) (take i after.cells))) e
    ∙ ap (count_by pair_taken) (sym (take_all n pairs (omega (arith, long))))
    ∙ count_front pair_taken (0, 0) pairs n (omega (arith, long))
    ∙ count_same (λ q. pair_taken (get_or pairs q (0, 0))) at_point n (λ q o. ap pair_taken (pair q o))
    ∙ count_same at_point (λ p. is_taken (view n before.cells colour p) (view n after.cells colour p)) n
    (λ p o. ap (λ (x : Bool). x && eqb (get_or after.cells p 0) 46) (mine_test n before.cells colour p o)
    ∙ ap (λ (x : Bool). is_state mine (view n before.cells colour p) && x) (none_test n after.cells colour p o (good p o)))
  where
    n : ℕ
    n = count_of before.size

    pairs : List (ℕ × ℕ)
    pairs = zip (take n before.cells) (take n after.cells)

    pair_taken : ℕ × ℕ → Bool
    pair_taken p = byte_taken (stone_byte colour) p.0 p.1

    at_point : ℕ → Bool
    at_point q = byte_taken (stone_byte colour) (get_or before.cells q 0) (get_or after.cells q 0)

    front : (xs : List ℕ) → length xs ≡ 361 → length (take n xs) ≡ n
    front xs o = length-take-le n xs (omega (arith, o, before.size.few.1))

    long : length pairs ≡ n
    long = length-zip (take n before.cells) (take n after.cells) ∙ rw (front before.cells l, front after.cells m) (omega arith)

    pair : (q : ℕ) → q < n → get_or pairs q (0, 0) ≡ (get_or before.cells q 0, get_or after.cells q 0)
    pair q o = get_or-zip (take n before.cells) (take n after.cells) q (0, 0) (omega (arith, front before.cells l)) (omega (arith, front after.cells m))
        ∙ rw (get_or-take n before.cells q 0 o, get_or-take n after.cells q 0 o) refl

    good : (p : ℕ) → p < n → is_point (get_or after.cells p 0) ≡ true
    good = subst (λ (z : Size). (p : ℕ) → p < count_of z → is_point (get_or after.cells p 0) ≡ true) s after.board
