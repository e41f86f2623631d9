-- Each stone of mine is held by safe marks or can be taken; so what stays is marked by some safe marks.
use Rattle.std.proofs.Common.{◌≡◌, ℕ, zero, suc, ◌<◌, true, ◌⊎◌, List, ◌++◌, inl, inr, arith}
use Rattle.grid.specs.Graph.{Near, Graph}
use Rattle.grid.specs.Grid.{near}
use Rattle.chains.specs.Board.{none, mine, Board}
use Rattle.chains.specs.Stands.{Stand}
use Rattle.chains.specs.Computed.{count}
use Rattle.chains.proofs.States.{none_mine, is_state_true, state_is, state_is_not}
use Rattle.chains.proofs.Below.{count_less}
use Rattle.play.specs.Played.{Stays, Plays, Inside}
use Rattle.play.proofs.Rows.{plays_append, plays_comes, plays_stand, plays_bound, inside_append}
use Rattle.rooms.specs.Safe.{Marks, Safe}
use Rattle.rooms.specs.Regions.{FewRooms}
use Rattle.rooms.proofs.All.{all_mine, all_safe_or_few}
use Rattle.judge.specs.Frame.{Frame}
use Rattle.judge.specs.AnyBoard.{ShowsOver, AliveOrTaken, StaysSafeOver}
use Rattle.judge.proofs.Frame.{was_mine}
use Rattle.judge.proofs.Taking.{take_chain}
use Rattle.judge.proofs.Back.{back}

-- safe marks hold the stone at p
abbrev Held : Near → Board → ℕ → Type 0
Held near b p = (s : Marks) × Safe near b s × (s p ≡ true)

-- a row of moves on the board takes it
record Taken (n : ℕ) (near : Near) (b : Board) (p : ℕ) : Type 0 where
  row : List ℕ
  inside : Inside n row
  end : Board
  plays : Plays near b row end
  gone : end p ≡ none

-- how many stones of mine there are
abbrev mine_below : ℕ → Board → ℕ
mine_below n b = count (all_mine b) n

-- after the chain of c is taken there are fewer stones of mine
fewer_mine : {n : ℕ} {near : Near} {b d : Board} {c : ℕ} → Frame near b c d → c < n → b c ≡ mine → d c ≡ none → mine_below n d < mine_below n b
fewer_mine {n} {b = b} {d = d} {c = c} f below m gone =
    count_less (all_mine b) (all_mine d) n c
    (λ p i h. state_is mine (b p) (was_mine f p (is_state_true mine (d p) h)))
    below (state_is mine (b c) m) (state_is_not mine (d c) (none_mine gone))

-- a stone that is taken later is taken
taken_later : {n : ℕ} {near : Near} {b d : Board} {p : ℕ} (xs : List ℕ) → Inside n xs → Plays near b xs d → Taken n near d p → Taken n near b p
taken_later {n} xs inside plays t =
    record {
      row = xs ++ t.row;
      inside = inside_append n xs t.row inside t.inside;
      end = t.end;
      plays = plays_append plays t.plays;
      gone = t.gone;
    }

-- judged afresh after each capture, with at most k captures to come
held_or_taken : {n : ℕ} {near : Near} → Graph n near → (k : ℕ) (b : Board) → Stand n near b → mine_below n b < k → (p : ℕ) → b p ≡ mine → Held near b p ⊎ Taken n near b p
held_or_taken g zero b stand few p m = absurd (omega arith)
held_or_taken {n} {near} g (suc k) b stand few p m = go (all_safe_or_few g b stand) (held_or_taken g k)
  where
    go : Safe near b (all_mine b) ⊎ ((c : ℕ) × (c < n) × (b c ≡ mine) × FewRooms near b c) →
        ((d : Board) → Stand n near d → mine_below n d < k → (q : ℕ) → d q ≡ mine → Held near d q ⊎ Taken n near d q) → Held near b p ⊎ Taken n near b p
    go (inl safe) later = inl (all_mine b, safe, state_is mine (b p) m)
    go (inr (c, below, was, few_rooms)) later = taken (take_chain g b stand c was few_rooms)
      where
        taken : (xs : List ℕ) × (d : Board) × Inside n xs × Plays near b xs d × Frame near b c d × (d c ≡ none) → Held near b p ⊎ Taken n near b p
        taken (xs, d, inside, plays, frame, gone) =
            elim (frame.mine_go p m) [
              | inl still ↦
                  let fewer : mine_below n d < mine_below n b = fewer_mine frame below was gone in
                  elim (later d (plays_stand g stand plays) (omega arith) p still) [
                    | inl held ↦ inl (held.0, back g frame gone held.1, held.2)
                    | inr t ↦ inr (taken_later xs inside plays t)
                  ]
              | inr z ↦ inr (record { row = xs; inside = inside; end = d; plays = plays; gone = z })
            ]

-- each stone of mine is held by safe marks, or taken by a row of moves on the board, at most one for each point
pub alive_or_taken : AliveOrTaken
unfolding AliveOrTaken ShowsOver
alive_or_taken n near g b stand p m =
    elim (held_or_taken g (suc (mine_below n b)) b stand (omega arith) p m) [
      | inl held ↦ inl held
      | inr t ↦ inr (t.row, t.inside, plays_bound t.inside t.plays, (t.end, t.plays, t.gone))
    ]

-- what stays is marked by some safe marks
pub stays_safe_over : StaysSafeOver
unfolding StaysSafeOver Stays
stays_safe_over n near g b stand p m stays =
    elim (held_or_taken g (suc (mine_below n b)) b stand (omega arith) p m) [
      | inl held ↦ held
      | inr t ↦ absurd (none_mine t.gone (stays t.end (plays_comes t.plays)))
    ]
