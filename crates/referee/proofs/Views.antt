-- Boards written in bytes, as each side sees them.
use Rattle.std.proofs.Common.{◌≡◌, ℕ, ◌<◌, Bool, true, false, ◌&&◌, eqb, ltb, ◌⊎◌, List, get_or, sym, refl, ap, ◌∙◌, subst, inl, inr, arith}
use mathlib.Core.Path.{fun_ext}
use Rattle.std.proofs.lemmas.Bool.{cases_Bool, eqb-true, lt-ltb}
use Rattle.grid.specs.Graph.{Near}
use Rattle.chains.specs.Board.{pick, State, none, mine, yours, Board}
use Rattle.chains.specs.Computed.{is_state, count}
use Rattle.chains.specs.Views.{other, is_point, state_of, view}
use Rattle.chains.specs.declared.colour.Colour.{Colour}
use Rattle.chains.specs.declared.colour.Colour.TheVariants.{Black, White}
use Rattle.play.specs.Played.{Played}
use Rattle.play.specs.Stone.{byte_of}
use Rattle.play.proofs.Outcome.{point_byte}
use Rattle.referee.specs.Rules.{as_seen, seen, Same, PlayedBy, leaves}

-- what White sees in a byte is what Black sees, turned
byte_seen : (byte : ℕ) → as_seen White (state_of Black byte) ≡ state_of White byte
byte_seen byte = join (eqb byte 88) (eqb byte 79) (λ e i. omega (arith, eqb-true byte 88 e, eqb-true byte 79 i))
  where
    join : (x o : Bool) → (x ≡ true → o ≡ true → ⊥) → as_seen White (pick x mine (pick o yours none)) ≡ pick o mine (pick x yours none)
    join true true h = absurd (h refl refl)
    join true false h = refl
    join false true h = refl
    join false false h = refl

-- the board in the bytes as a side sees it
pub view_seen : (n : ℕ) (bytes : List ℕ) (c : Colour) → seen c (view n bytes Black) ≡ view n bytes c
view_seen n bytes Black = refl
view_seen n bytes White = fun_ext (λ p. join p (cases_Bool (ltb p n)))
  where
    join : (p : ℕ) → (ltb p n ≡ true) ⊎ (ltb p n ≡ false) → as_seen White (pick (ltb p n) (state_of Black (get_or bytes p 0)) none) ≡ pick (ltb p n) (state_of White (get_or bytes p 0)) none
    join p (inl e) = rw e (byte_seen (get_or bytes p 0))
    join p (inr e) = rw e refl

-- what is played on the bytes is played in the record
pub view_played : (n : ℕ) (near : Near) (c : Colour) (bytes after : List ℕ) (x : ℕ) → Played near (view n bytes (other c)) x (view n after (other c)) → PlayedBy near c (view n bytes Black) x (view n after Black)
view_played n near c bytes after x p =
    subst (λ (b : Board). Played near b x (seen (other c) (view n after Black))) (sym (view_seen n bytes (other c))) (subst (λ (d : Board). Played near (view n bytes (other c)) x d) (sym (view_seen n after (other c))) p)

-- what has no board on the bytes has none in the record
pub view_not_played : (n : ℕ) (near : Near) (c : Colour) (bytes : List ℕ) (x : ℕ) → ((d : Board) → Played near (view n bytes (other c)) x d → ⊥) → (d : Board) → PlayedBy near c (view n bytes Black) x d → ⊥
view_not_played n near c bytes x h d p = h (seen (other c) d) (subst (λ (b : Board). Played near b x (seen (other c) d)) (view_seen n bytes (other c)) p)

-- the stones of a colour that leave, counted on the bytes as that side sees them
pub view_leaves : (n : ℕ) (c : Colour) (bytes after : List ℕ) → leaves n c (view n bytes Black) (view n after Black) ≡ count (λ q. is_state mine (view n bytes c q) && is_state none (view n after c q)) n
unfolding leaves
view_leaves n c bytes after = λ i. count (λ q. is_state mine (view_seen n bytes c i q) && gone q i) n
  where
    both : (o : Colour) (s : State) → is_state none s ≡ is_state none (as_seen o s)
    both Black s = refl
    both White none = refl
    both White mine = refl
    both White yours = refl

    gone : (q : ℕ) → is_state none (view n after Black q) ≡ is_state none (view n after c q)
    gone q = both c (view n after Black q) ∙ ap (λ (b : Board). is_state none (b q)) (view_seen n after c)

-- points' bytes that write the same board agree
pub same_bytes : (n : ℕ) (xs ys : List ℕ) → ((p : ℕ) → p < n → is_point (get_or xs p 0) ≡ true) → ((p : ℕ) → p < n → is_point (get_or ys p 0) ≡ true) → Same (view n xs Black) (view n ys Black) → (p : ℕ) → p < n → get_or xs p 0 ≡ get_or ys p 0
same_bytes n xs ys f g s p l =
    let e : state_of Black (get_or xs p 0) ≡ state_of Black (get_or ys p 0) = rw (lt-ltb p n l) at (s p) in
    point_byte Black (get_or xs p 0) (f p l) ∙ ap (byte_of Black) e ∙ sym (point_byte Black (get_or ys p 0) (g p l))
