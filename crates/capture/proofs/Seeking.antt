-- Looking over neighbours for a label, and over the points for the liberty to be played next.
use Rattle.std.proofs.Common.{◌≡◌, ℕ, ◌+◌, ◌<◌, Bool, true, false, eqb, ltb, List, get_or, Some, None, Option, sym, ap, ◌∙◌, subst, inl, inr, arith}
use Rattle.std.specs.List.{list_any, Contains}
use Rattle.std.proofs.lemmas.Bool.{cases_Bool, cases_eq, and_parts, and_from, both_ways, eqb-true, eq-eqb, lt-ltb}
use Rattle.std.proofs.lemmas.List.Folds.{Any-from_list_any, list_any_at}
use Rattle.grid.specs.Graph.{Near}
use Rattle.grid.specs.Neighbours.{neighbours_of}
use Rattle.grid.specs.declared.size.Size.{Size}
use Rattle.grid.proofs.Handed.{beside_it, all_listed}
use Rattle.chains.specs.Sized.{near_of}
use Rattle.rooms.specs.Bits.{member}
use Rattle.capture.specs.Target.{has_label, Touch, OpenTouch, NextOrNone}

-- whether some element passes, by the elements
some_passes : (t : ℕ → Bool) (xs : List ℕ) → list_any t xs ≡ true → (q : ℕ) × Contains xs q × (t q ≡ true)
some_passes t xs e = let (k, q, below, at_k, h) = Any-from_list_any t xs e in (q, (k, below, at_k), h)

none_passes : (t : ℕ → Bool) (xs : List ℕ) (q : ℕ) → list_any t xs ≡ false → Contains xs q → t q ≡ false
none_passes t xs q e (k, below, at_k) = elim (cases_Bool (t q)) [
  | inl hit ↦ absurd (both_ways (list_any t xs) e (list_any_at t xs k q below (ap t at_k ∙ hit)))
  | inr miss ↦ miss
]

-- beside a stone with the label, or beside none
pub touch_found : (size : Size) {chains : List ℕ} {chain : ℕ} (p : ℕ) → list_any (has_label chains chain) (neighbours_of size.width size.height p) ≡ true → Touch (near_of size) chains chain p
touch_found size {chains} {chain} p e =
    let (q, c, h) = some_passes (has_label chains chain) (neighbours_of size.width size.height p) e in
    record {
      stone = q;
      next = (beside_it size.width size.height p q c).0;
      label = eqb-true (get_or chains q 0) chain (and_parts (ltb q 361) (eqb (get_or chains q 0) chain) h).1;
    }

pub touch_none : (size : Size) {chains : List ℕ} {chain : ℕ} (p : ℕ) → list_any (has_label chains chain) (neighbours_of size.width size.height p) ≡ false → Touch (near_of size) chains chain p → ⊥
touch_none size {chains} {chain} p e t =
    let below = (beside_it size.width size.height p t.stone (all_listed size.width size.height p t.stone t.next)).1 in
    both_ways (has_label chains chain t.stone) (none_passes (has_label chains chain) (neighbours_of size.width size.height p) t.stone e (all_listed size.width size.height p t.stone t.next))
    (and_from (ltb t.stone 361) (eqb (get_or chains t.stone 0) chain) (lt-ltb t.stone 361 (omega (arith, below, size.few.1))) (eq-eqb (get_or chains t.stone 0) chain t.label))

-- the last liberty so far
abbrev pub Last : Near → List ℕ → List ℕ → ℕ → ℕ → Option ℕ → Type 0
Last near cells chains chain k None = (z : ℕ) → z < k → OpenTouch near cells chains chain z → ⊥
Last near cells chains chain k (Some x) = (x < k) × OpenTouch near cells chains chain x

-- the points below k are seen: the rooms of all liberties among them are vital
pub record Seen (near : Near) (cells chains rooms vital : List ℕ) (chain k : ℕ) (last : Option ℕ) : Type 0 where
  pub all : (z : ℕ) → z < k → OpenTouch near cells chains chain z → member vital (get_or rooms z 0) ≡ true
  pub one : Last near cells chains chain k last

pub seen_start : {near : Near} {cells chains rooms vital : List ℕ} {chain : ℕ} → Seen near cells chains rooms vital chain 0 None
seen_start = record { all = λ z l t. absurd (omega arith); one = λ z l t. omega arith }

-- a point that is no liberty
pub seen_skip : {near : Near} {cells chains rooms vital : List ℕ} {chain k : ℕ} {last : Option ℕ} (after : Option ℕ) → Seen near cells chains rooms vital chain k last → after ≡ last →
    (OpenTouch near cells chains chain k → ⊥) → Seen near cells chains rooms vital chain (k + 1) after
seen_skip {near} {cells} {chains} {rooms} {vital} {chain} {k} after s e other_way = record { all = all; one = one after (subst (Last near cells chains chain k) (sym e) s.one) }
  where
    below : (z : ℕ) → z < k + 1 → OpenTouch near cells chains chain z → z < k
    below z l t = elim (cases_eq z k) [
      | inl same ↦ absurd (other_way (subst (OpenTouch near cells chains chain) same t))
      | inr other ↦ omega arith
    ]

    all : (z : ℕ) → z < k + 1 → OpenTouch near cells chains chain z → member vital (get_or rooms z 0) ≡ true
    all z l t = s.all z (below z l t) t

    one : (o : Option ℕ) → Last near cells chains chain k o → Last near cells chains chain (k + 1) o
    one None f = λ z l t. f z (below z l t) t
    one (Some x) f = (omega (arith, f.0), f.1)

-- a liberty whose room was vital
pub seen_vital : {near : Near} {cells chains rooms vital : List ℕ} {chain k : ℕ} {last after : Option ℕ} → Seen near cells chains rooms vital chain k last → after ≡ Some k → OpenTouch near cells chains chain k →
    member vital (get_or rooms k 0) ≡ true → Seen near cells chains rooms vital chain (k + 1) after
seen_vital {near} {cells} {chains} {rooms} {vital} {chain} {k} s e t m = record {
  all = λ z l u. elim (cases_eq z k) [
    | inl same ↦ subst (λ (i : ℕ). member vital (get_or rooms i 0) ≡ true) (sym same) m
    | inr other ↦ s.all z (omega arith) u
  ];
  one = subst (Last near cells chains chain (k + 1)) (sym e) (let below : k < k + 1 = omega arith in (below, t));
}

-- what the search comes to where every liberty had a vital room
pub seen_all : {n : ℕ} {near : Near} {cells chains rooms vital : List ℕ} {chain k : ℕ} (last : Option ℕ) → k ≡ n → Seen near cells chains rooms vital chain k last → NextOrNone n near cells chains rooms vital chain last
seen_all None e s = λ z l t. s.one z (omega arith) t
seen_all {n} (Some p) e s = record { below = omega (arith, s.one.0); free = s.one.1; choice = inr (λ z l t. s.all z (omega arith) t) }
