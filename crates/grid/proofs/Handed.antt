-- The neighbours of a point as a list: what an iterator gives for a number, and that the list is exact.
use Rattle.std.proofs.Common.{◌≡◌, ℕ, zero, suc, ◌+◌, ◌-◌, ◌<◌, ◌≤◌, true, ◌⊎◌, List, [], ◌∷◌, length, get_or, ap, Some, None, Option, sym, refl, arith, subst, inl, inr, ◌∙◌, zero-add, map-id}
use Rattle.std.proofs.lemmas.Iterator.Consumers.{YieldsList-from_first, YieldsList-turn, YieldsList-end}
use Rattle.std.proofs.lemmas.List.Elements.{Contains-append_cases, Contains-append_left, Contains-append_right, Contains-push, Contains-push_cases, Contains-get_or}
use Rattle.std.proofs.lemmas.Bool.{cases_lt, lt-ltb, le-ltb}
use Rattle.std.specs.Iterator.{Yields, YieldsFirst}
use Rattle.std.specs.List.{Contains}
use Rattle.grid.specs.declared.neighbours.Neighbours.{Neighbours}
use Rattle.grid.specs.Ahead.{ahead}
use Rattle.grid.specs.Grid.{points, near}
use Rattle.grid.specs.Neighbours.{slots, hand, handed, neighbours_of}
use Rattle.grid.specs.Statements.{Lists}
use Rattle.grid.proofs.Square.{graph, hands}

-- a number without a neighbour gives nothing
skips_at : (f : ℕ → Option ℕ) (k n : ℕ) → f k ≡ None → handed f k (suc n) ≡ handed f (k + 1) n
unfolding handed
skips_at f k n e = rw (handed, e) refl

pub skips : (f : ℕ → Option ℕ) (k m : ℕ) → k < m → f k ≡ None → handed f k (m - k) ≡ handed f (k + 1) (m - (k + 1))
skips f k m l e =
    let s : suc (m - (k + 1)) ≡ m - k = omega arith in
    subst (λ (n : ℕ). handed f k n ≡ handed f (k + 1) (m - (k + 1))) s (skips_at f k (m - (k + 1)) e)

-- and one with a neighbour gives it first
gives_at : (f : ℕ → Option ℕ) (k n q : ℕ) → f k ≡ Some q → handed f k (suc n) ≡ q ∷ handed f (k + 1) n
unfolding handed
gives_at f k n q e = rw (handed, e) refl

pub gives : (f : ℕ → Option ℕ) (k m q : ℕ) → k < m → f k ≡ Some q → handed f k (m - k) ≡ q ∷ handed f (k + 1) (m - (k + 1))
gives f k m q l e =
    let s : suc (m - (k + 1)) ≡ m - k = omega arith in
    subst (λ (n : ℕ). handed f k n ≡ q ∷ handed f (k + 1) (m - (k + 1))) s (gives_at f k (m - (k + 1)) q e)

-- no number is left
none_at : (f : ℕ → Option ℕ) (k : ℕ) → handed f k 0 ≡ []
unfolding handed
none_at f k = refl

pub ends : (f : ℕ → Option ℕ) (k m : ℕ) → m ≤ k → handed f k (m - k) ≡ []
ends f k m l =
    let s : 0 ≡ m - k = omega arith in
    subst (λ (n : ℕ). handed f k n ≡ []) s (none_at f k)

first_or_later : (r : ℕ) (xs : List ℕ) (q : ℕ) → Contains (r ∷ xs) q → (r ≡ q) ⊎ Contains xs q
first_or_later r xs q c =
    elim (Contains-append_cases (r ∷ []) xs q c) [
      | inl here ↦ elim (Contains-push_cases [] r q here) [ inl none ↦ absurd (omega (arith, none.1)) | inr e ↦ inl e ]
      | inr there ↦ inr there
    ]

-- what is handed out alike makes one list
alike : (f g : ℕ → Option ℕ) (k n : ℕ) → ((j : ℕ) → k ≤ j → j < k + n → f j ≡ g j) → handed f k n ≡ handed g k n
alike f g k zero h = none_at f k ∙ sym (none_at g k)
alike f g k (suc n) h = go (alike f g (k + 1) n (λ j l m. h j (omega arith) (omega arith))) (f k) refl
  where
    same : f k ≡ g k
    same = h k (omega arith) (omega arith)

    go : handed f (k + 1) n ≡ handed g (k + 1) n → (o : Option ℕ) → f k ≡ o → handed f k (suc n) ≡ handed g k (suc n)
    go e None is = skips_at f k n is ∙ (e ∙ sym (skips_at g k n (sym same ∙ is)))
    go e (Some q) is = gives_at f k n q is ∙ (ap (λ xs. q ∷ xs) e ∙ sym (gives_at g k n q (sym same ∙ is)))

-- where no number has a neighbour, the list is empty
nothing : (f : ℕ → Option ℕ) (k n : ℕ) → ((j : ℕ) → f j ≡ None) → handed f k n ≡ []
nothing f k zero h = none_at f k
nothing f k (suc n) h = skips_at f k n (h k) ∙ nothing f (k + 1) n h

abbrev four : (w h p : ℕ) → List (Option ℕ)
four w h p = hand w h p 0 ∷ hand w h p 1 ∷ hand w h p 2 ∷ hand w h p 3 ∷ []

four_at : (w h p j : ℕ) → j < 4 → get_or (four w h p) j None ≡ hand w h p j
four_at w h p zero l = refl
four_at w h p (suc zero) l = refl
four_at w h p (suc (suc zero)) l = refl
four_at w h p (suc (suc (suc zero))) l = refl
four_at w h p (suc (suc (suc (suc j)))) l = absurd (omega arith)

-- an iterator that has looked at no number has all neighbours ahead
pub all_ahead : (w h p : ℕ) (s : Neighbours) → s.numbered ≡ hand w h p 0 ∷ hand w h p 1 ∷ hand w h p 2 ∷ hand w h p 3 ∷ [] → s.next ≡ 0 → ahead s ≡ neighbours_of w h p
all_ahead w h p s held next = elim (cases_lt p (points w h)) [
  | inl l ↦ whole (alike (λ k. get_or s.numbered k None) (hand w h p) 0 4 (λ j a b. at j (omega arith))) (rw (lt-ltb p (points w h) l) refl)
  | inr l ↦ none l
]
  where
    at : (j : ℕ) → j < 4 → get_or s.numbered j None ≡ hand w h p j
    at j l = ap (λ (xs : List (Option ℕ)). get_or xs j None) held ∙ four_at w h p j l

    start : handed (λ k. get_or s.numbered k None) s.next (4 - s.next) ≡ handed (λ k. get_or s.numbered k None) 0 4
    start = ap (λ (k : ℕ). handed (λ k. get_or s.numbered k None) k (4 - k)) next

    whole : handed (λ k. get_or s.numbered k None) 0 4 ≡ handed (hand w h p) 0 4 → slots w h p ≡ 4 → ahead s ≡ neighbours_of w h p
    whole e f = start ∙ (e ∙ ap (handed (hand w h p) 0) (sym f))

    none : points w h ≤ p → ahead s ≡ neighbours_of w h p
    none l =
        let off : (j : ℕ) → hand w h p j ≡ None = λ j. rw (le-ltb p (points w h) l) refl in
        let no_slot : slots w h p ≡ 0 = rw (le-ltb p (points w h) l) refl in
        start ∙ (alike (λ k. get_or s.numbered k None) (hand w h p) 0 4 (λ j a b. at j (omega arith))
        ∙ (nothing (hand w h p) 0 4 off ∙ sym (ap (handed (hand w h p) 0) no_slot ∙ none_at (hand w h p) 0)))

-- one call: a number with a neighbour gives it, one without gives nothing, and at the end nothing is left
pub given : (s : Neighbours) (k q : ℕ) → k ≡ s.next → k < 4 → get_or s.numbered k None ≡ Some q → ahead s ≡ q ∷ ahead (record { numbered = s.numbered; next = k + 1 })
given s k q e l is = ap (λ (j : ℕ). handed (λ k. get_or s.numbered k None) j (4 - j)) (sym e) ∙ gives (λ k. get_or s.numbered k None) k 4 q l is

pub passed : (s : Neighbours) (k : ℕ) → k ≡ s.next → k < 4 → get_or s.numbered k None ≡ None → ahead (record { numbered = s.numbered; next = k + 1 }) ≡ ahead s
passed s k e l is = sym (ap (λ (j : ℕ). handed (λ k. get_or s.numbered k None) j (4 - j)) (sym e) ∙ skips (λ k. get_or s.numbered k None) k 4 l is)

pub used_up : (s : Neighbours) (k : ℕ) → k ≡ s.next → 4 ≤ k → ahead s ≡ []
used_up s k e l = ap (λ (j : ℕ). handed (λ k. get_or s.numbered k None) j (4 - j)) (sym e) ∙ ends (λ k. get_or s.numbered k None) k 4 l

-- what stands in the list is handed out for a number
listed : (f : ℕ → Option ℕ) (k n q : ℕ) → Contains (handed f k n) q → (j : ℕ) × (f j ≡ Some q)
listed f k zero q c =
    let none : Contains [] q = subst (λ (xs : List ℕ). Contains xs q) (none_at f k) c in
    absurd (omega (arith, none.1))
listed f k (suc n) q c = go (listed f (k + 1) n q) (f k) refl
  where
    go : (Contains (handed f (k + 1) n) q → (j : ℕ) × (f j ≡ Some q)) → (o : Option ℕ) → f k ≡ o → (j : ℕ) × (f j ≡ Some q)
    go next None e = next (subst (λ (xs : List ℕ). Contains xs q) (skips_at f k n e) c)
    go next (Some r) e =
        elim (first_or_later r (handed f (k + 1) n) q (subst (λ (xs : List ℕ). Contains xs q) (gives_at f k n r e) c)) [
          | inl here ↦ (k, subst (λ (x : ℕ). f k ≡ Some x) here e)
          | inr there ↦ next there
        ]

-- what is handed out for a number stands in the list
later : (f : ℕ → Option ℕ) (k n q : ℕ) → Contains (handed f (k + 1) n) q → Contains (handed f k (suc n)) q
later f k n q c = go (f k) refl
  where
    go : (o : Option ℕ) → f k ≡ o → Contains (handed f k (suc n)) q
    go None e = subst (λ (xs : List ℕ). Contains xs q) (sym (skips_at f k n e)) c
    go (Some r) e = subst (λ (xs : List ℕ). Contains xs q) (sym (gives_at f k n r e)) (Contains-append_right (r ∷ []) (handed f (k + 1) n) q c)

found : (f : ℕ → Option ℕ) (k n i q : ℕ) → i < n → f (k + i) ≡ Some q → Contains (handed f k n) q
found f k zero i q l e = absurd (omega arith)
found f k (suc n) zero q l e =
    let at : f k ≡ Some q = subst (λ (j : ℕ). f j ≡ Some q) (omega arith) e in
    subst (λ (xs : List ℕ). Contains xs q) (sym (gives_at f k n q at)) (Contains-append_left (q ∷ []) (handed f (k + 1) n) q (Contains-push [] q))
found f k (suc n) (suc i) q l e =
    let at : f (k + 1 + i) ≡ Some q = subst (λ (j : ℕ). f j ≡ Some q) (omega arith) e in
    later f k n q (found f (k + 1) n i q (omega arith) at)

-- the list has the neighbours of p, and nothing else
pub beside_it : (w h p q : ℕ) → Contains (neighbours_of w h p) q → (near w h p q ≡ true) × (q < points w h)
beside_it w h p q c =
    let f = listed (hand w h p) 0 (slots w h p) q c in
    let t = (hands w h).sound p f.0 q f.1 in
    (t, (graph w h).inside q p ((graph w h).symmetric p q t))

pub all_listed : (w h p q : ℕ) → near w h p q ≡ true → Contains (neighbours_of w h p) q
all_listed w h p q t =
    let f = (hands w h).complete p q t in
    found (hand w h p) 0 (slots w h p) f.0 q f.1 (subst (λ (j : ℕ). hand w h p j ≡ Some q) (sym (zero-add f.0)) f.2)

-- the first item is that of the first number, the others are those of the later ones
first_item : (f : ℕ → Option ℕ) (k n i q : ℕ) → ((m : ℕ) → m < length (handed f (k + 1) n) → (j : ℕ) × (k + 1 ≤ j) × (f j ≡ Some (get_or (handed f (k + 1) n) m 0))) →
    f k ≡ Some q → i < length (q ∷ handed f (k + 1) n) → (j : ℕ) × (k ≤ j) × (f j ≡ Some (get_or (handed f k (suc n)) i 0))
first_item f k n zero q next e l = (k, omega arith, e ∙ ap (λ (xs : List ℕ). Some (get_or xs 0 0)) (sym (gives_at f k n q e)))
first_item f k n (suc i) q next e l =
    let r = next i (omega (arith, l)) in
    (r.0, omega (arith, r.1), r.2 ∙ ap (λ (xs : List ℕ). Some (get_or xs (suc i) 0)) (sym (gives_at f k n q e)))

-- each item of the list is handed out for a number that is not below the first
numbered_item : (f : ℕ → Option ℕ) (k n i : ℕ) → i < length (handed f k n) → (j : ℕ) × (k ≤ j) × (f j ≡ Some (get_or (handed f k n) i 0))
numbered_item f k zero i l = absurd (omega (arith, subst (λ (xs : List ℕ). i < length xs) (none_at f k) l))
numbered_item f k (suc n) i l = go (numbered_item f (k + 1) n) (f k) refl
  where
    go : ((m : ℕ) → m < length (handed f (k + 1) n) → (j : ℕ) × (k + 1 ≤ j) × (f j ≡ Some (get_or (handed f (k + 1) n) m 0))) → (o : Option ℕ) → f k ≡ o →
        (j : ℕ) × (k ≤ j) × (f j ≡ Some (get_or (handed f k (suc n)) i 0))
    go next None e =
        let r = next i (subst (λ (xs : List ℕ). i < length xs) (skips_at f k n e) l) in
        (r.0, omega (arith, r.1), r.2 ∙ ap (λ (xs : List ℕ). Some (get_or xs i 0)) (sym (skips_at f k n e)))
    go next (Some q) e = first_item f k n i q next e (subst (λ (xs : List ℕ). i < length xs) (gives_at f k n q e) l)

-- the first item is less than the others, if those are in order
after_first : (f : ℕ → Option ℕ) → ((j k q r : ℕ) → j < k → f j ≡ Some q → f k ≡ Some r → q < r) → (k n q : ℕ) → f k ≡ Some q →
    ((a b : ℕ) → a < b → b < length (handed f (k + 1) n) → get_or (handed f (k + 1) n) a 0 < get_or (handed f (k + 1) n) b 0) →
    (i j : ℕ) → i < j → j < length (q ∷ handed f (k + 1) n) → get_or (q ∷ handed f (k + 1) n) i 0 < get_or (q ∷ handed f (k + 1) n) j 0
after_first f o k n q e rest i zero l m = absurd (omega arith)
after_first f o k n q e rest zero (suc j) l m =
    let r = numbered_item f (k + 1) n j (omega (arith, m)) in
    o k r.0 q (get_or (handed f (k + 1) n) j 0) (omega (arith, r.1)) e r.2
after_first f o k n q e rest (suc i) (suc j) l m = rest i j (omega arith) (omega (arith, m))

-- so where a greater number has a greater neighbour, the list is in order
in_order : (f : ℕ → Option ℕ) → ((j k q r : ℕ) → j < k → f j ≡ Some q → f k ≡ Some r → q < r) → (k n i j : ℕ) → i < j → j < length (handed f k n) →
    get_or (handed f k n) i 0 < get_or (handed f k n) j 0
in_order f o k zero i j l m = absurd (omega (arith, subst (λ (xs : List ℕ). j < length xs) (none_at f k) m))
in_order f o k (suc n) i j l m = go (λ a b. in_order f o (k + 1) n a b) (f k) refl
  where
    Less : List ℕ → Type 0
    Less xs = get_or xs i 0 < get_or xs j 0

    go : ((a b : ℕ) → a < b → b < length (handed f (k + 1) n) → get_or (handed f (k + 1) n) a 0 < get_or (handed f (k + 1) n) b 0) → (x : Option ℕ) → f k ≡ x → Less (handed f k (suc n))
    go rest None e = subst Less (sym (skips_at f k n e)) (rest i j l (subst (λ (xs : List ℕ). j < length xs) (skips_at f k n e) m))
    go rest (Some q) e = subst Less (sym (gives_at f k n q e)) (after_first f o k n q e rest i j l (subst (λ (xs : List ℕ). j < length xs) (gives_at f k n q e) m))

-- the list of the neighbours of p is exact
pub lists : (w h p : ℕ) → Lists (near w h) p (neighbours_of w h p)
lists w h p = record {
  sound = λ q c. (beside_it w h p q c).0;
  complete = λ q t. all_listed w h p q t;
  ordered = λ i j l m. in_order (hand w h p) ((hands w h).ordered p) 0 (slots w h p) i j l m;
}

-- a loop over the neighbours of p: each item is one, and at the end every neighbour was one
pub neighbours_turn :
    (w h p : ℕ) (s : Neighbours) → ahead s ≡ neighbours_of w h p → (xs : List ℕ) (t : Neighbours) → Yields (YieldsFirst ahead) s xs t
    → (r : Option ℕ) (u : Neighbours) (q : ℕ) → r ≡ Some q → YieldsFirst ahead t r u → (near w h p q ≡ true) × (q < points w h)
neighbours_turn w h p s e xs t y r u q is step =
    let f = YieldsList-turn (YieldsList-from_first (λ (x : ℕ). x) ahead (neighbours_of w h p) e) xs t y r u q is step in
    beside_it w h p q (subst (Contains (neighbours_of w h p)) (sym f.1) (Contains-get_or (neighbours_of w h p) (length xs) q f.0))

pub neighbours_end :
    (w h p : ℕ) (s : Neighbours) → ahead s ≡ neighbours_of w h p → (xs : List ℕ) (t : Neighbours) → Yields (YieldsFirst ahead) s xs t
    → (r : Option ℕ) (u : Neighbours) → r ≡ None → YieldsFirst ahead t r u → (q : ℕ) → near w h p q ≡ true → Contains xs q
neighbours_end w h p s e xs t y r u is step q n =
    let f = YieldsList-end (YieldsList-from_first (λ (x : ℕ). x) ahead (neighbours_of w h p) e) xs t y r u is step in
    subst (λ (l : List ℕ). Contains l q) (sym f.0 ∙ map-id xs) (all_listed w h p q n)
