-- Rooms: whether a point is beside a chain, and whether a room is vital to it, are decided.
use Rattle.std.proofs.Common.{◌≡◌, ℕ, ◌<◌, Bool, true, ◌⊎◌, sym, refl, subst, inl, inr}
use Rattle.std.proofs.lemmas.Bool.{cases_Bool, both_ways, false≢true}
use Rattle.grid.specs.Graph.{Near, Graph}
use Rattle.chains.specs.Board.{none, mine, yours, Board, Joined}
use Rattle.chains.specs.Linked.{Linked, here, step}
use Rattle.chains.proofs.States.{is_none, is_mine, is_yours, kind, none_mine, none_yours}
use Rattle.chains.proofs.Below.{find}
use Rattle.chains.proofs.Reach.{linked_or_not}
use Rattle.chains.proofs.Chain.{joined_or_not}
use Rattle.rooms.specs.Regions.{not_mine, OneRoom, Beside, Liberty, AllBeside, Spare}

-- where no stone of mine stands, the point is empty or the other side's
pub clear_cases : (b : Board) (p : ℕ) → not_mine b p ≡ true → (b p ≡ none) ⊎ (b p ≡ yours)
clear_cases b p h = elim (kind (b p)) [
  | is_none z ↦ inl z
  | is_mine m ↦ absurd (false≢true (rw m at h))
  | is_yours y ↦ inr y
]

-- a point is empty, or it is not
pub none_or_not : (b : Board) (p : ℕ) → (b p ≡ none) ⊎ (b p ≡ none → ⊥)
none_or_not b p = elim (kind (b p)) [
  | is_none h ↦ inl h
  | is_mine h ↦ inr (λ z. none_mine z h)
  | is_yours h ↦ inr (λ z. none_yours z h)
]

-- what is reached is the first point, or a point of the board
pub linked_below : {n : ℕ} {near : Near} → Graph n near → {t : ℕ → Bool} {p q : ℕ} → Linked near t p q → (q ≡ p) ⊎ (q < n)
linked_below g (here h) = inl refl
linked_below g (step {q = q} r l near_r h) = inr (g.inside r q (g.symmetric q r near_r))

-- a point beside a chain is a point of the board
pub beside_below : {n : ℕ} {near : Near} → Graph n near → {b : Board} {c e : ℕ} → Beside near b c e → e < n
beside_below g {e = e} s = g.inside e s.stone (g.symmetric s.stone e s.next)

-- a point is beside the chain of c, or it is not
pub beside_or_not : {n : ℕ} {near : Near} → Graph n near → (b : Board) (c e : ℕ) → Beside near b c e ⊎ (Beside near b c e → ⊥)
beside_or_not {n} {near} g b c e = go (find n each)
  where
    each : (s : ℕ) → (Joined near b mine c s → near s e ≡ true → ⊥) ⊎ (Joined near b mine c s × (near s e ≡ true))
    each s = elim (cases_Bool (near s e)) [
      | inl t ↦ elim (joined_or_not g b mine c s) [ inl j ↦ inr (j, t) | inr away ↦ inl (λ j u. away j) ]
      | inr f ↦ inl (λ j t. both_ways (near s e) f t)
    ]

    go : ((s : ℕ) → s < n → Joined near b mine c s → near s e ≡ true → ⊥) ⊎ ((s : ℕ) × (s < n) × (Joined near b mine c s × (near s e ≡ true))) → Beside near b c e ⊎ (Beside near b c e → ⊥)
    go (inl away) = inr (λ s. away s.stone (g.inside s.stone e s.next) s.chain s.next)
    go (inr found) = inl (record { stone = found.0; chain = found.2.0; next = found.2.1 })

-- a point is a liberty of the chain of c, or it is not
pub liberty_or_not : {n : ℕ} {near : Near} → Graph n near → (b : Board) (c e : ℕ) → Liberty near b c e ⊎ (Liberty near b c e → ⊥)
liberty_or_not g b c e = elim (none_or_not b e) [
  | inl h ↦ elim (beside_or_not g b c e) [ inl s ↦ inl (record { beside = s; is = h }) | inr away ↦ inr (λ l. away l.beside) ]
  | inr full ↦ inr (λ l. full l.is)
]

-- the room of y is vital to the chain of c, or has an empty point to spare
pub all_beside_or_spare : {n : ℕ} {near : Near} → Graph n near → (b : Board) (c y : ℕ) → AllBeside near b c y ⊎ Spare near b c y
all_beside_or_spare {n} {near} g b c y = first (each y)
  where
    Fine : ℕ → Type 0
    Fine e = OneRoom near b y e → b e ≡ none → Beside near b c e

    Free : ℕ → Type 0
    Free e = OneRoom near b y e × (b e ≡ none) × (Beside near b c e → ⊥)

    each : (e : ℕ) → Fine e ⊎ Free e
    each e = elim (beside_or_not g b c e) [
      | inl s ↦ inl (λ l h. s)
      | inr away ↦ elim (none_or_not b e) [
        | inl h ↦ elim (linked_or_not g (not_mine b) y e) [ inl l ↦ inr (l, h, away) | inr apart ↦ inl (λ l h2. absurd (apart l)) ]
        | inr full ↦ inl (λ l h. absurd (full h))
      ]
    ]

    spare : (e : ℕ) → Free e → Spare near b c y
    spare e f = record { point = e; inside = f.0; is = f.1; away = f.2 }

    all : Fine y → ((e : ℕ) → e < n → Fine e) → AllBeside near b c y
    all at_y below e l h = elim (linked_below g l) [ inl q ↦ subst Fine (sym q) at_y l h | inr small ↦ below e small l h ]

    rest : Fine y → ((e : ℕ) → e < n → Fine e) ⊎ ((e : ℕ) × (e < n) × Free e) → AllBeside near b c y ⊎ Spare near b c y
    rest at_y (inl below) = inl (all at_y below)
    rest at_y (inr found) = inr (spare found.0 found.2)

    first : Fine y ⊎ Free y → AllBeside near b c y ⊎ Spare near b c y
    first (inl at_y) = rest at_y (find n each)
    first (inr f) = inr (spare y f)
