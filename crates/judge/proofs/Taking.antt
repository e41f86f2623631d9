-- A chain with at most one vital room can be taken: the other side plays on nothing but its liberties, first those with a spare point in their room.
use Rattle.std.proofs.Common.{◌≡◌, ℕ, zero, suc, ◌<◌, Bool, true, false, ◌&&◌, ◌≢◌, ◌⊎◌, List, [], ◌∷◌, sym, refl, subst, inl, inr, arith}
use Rattle.std.proofs.lemmas.Bool.{and_parts, and_from, and_right}
use Rattle.grid.specs.Graph.{Near, Graph}
use Rattle.chains.specs.Board.{none, mine, yours, Board, Joined, at, on, Breathes}
use Rattle.chains.specs.Linked.{Linked, here, step}
use Rattle.chains.specs.Stands.{Stand}
use Rattle.chains.specs.Computed.{is_state, count}
use Rattle.chains.proofs.States.{is_state_true, state_is, state_is_not, none_yours}
use Rattle.chains.proofs.Below.{find, count_less}
use Rattle.chains.proofs.Chain.{joined_last, breathes_or_not, breathes_along}
use Rattle.play.specs.Played.{with_stone, Played, Plays, Inside}
use Rattle.play.specs.After.{after}
use Rattle.play.proofs.Moves.{put_was, Made, after_made, after_played, goes_on}
use Rattle.play.proofs.Rows.{inside_more}
use Rattle.rooms.specs.Regions.{OneRoom, Beside, Liberty, AllBeside, Spare, FewRooms}
use Rattle.rooms.proofs.Regions.{clear_cases, beside_below, liberty_or_not, all_beside_or_spare}
use Rattle.judge.specs.Frame.{Frame}
use Rattle.judge.proofs.Frame.{frame_start, was_mine, stays_clear, liberty_back, chain_with_stone, chain_before_stone, frame_made, step_frame}

-- on a way without stones of mine, from a stone of the other side to an empty point, that stone finds breath
pub walk : {near : Near} {t : ℕ → Bool} {e : Board} {y z : ℕ} → ((r : ℕ) → t r ≡ true → (e r ≡ none) ⊎ (e r ≡ yours)) → e y ≡ yours → Linked near t y z → e z ≡ none → Breathes near e yours y
walk {near} {t} {e} {y} {z} clear stone way empty = elim (breath_or_joined way) [ inl breath ↦ breath | inr j ↦ absurd (none_yours empty (joined_last j)) ]
  where
    breath_or_joined : {w : ℕ} → Linked near t y w → Breathes near e yours y ⊎ Joined near e yours y w
    breath_or_joined (here h) = inr (at stone)
    breath_or_joined (step {q = q} r l near_r h) = elim (breath_or_joined l) [
      | inl breath ↦ inl breath
      | inr j ↦ elim (clear r h) [
        | inl z ↦ inl (record { stone = q; chain = j; empty = r; next = near_r; is = z })
        | inr s ↦ inr (on r j near_r s)
      ]
    ]

-- which liberties may be played next: one with a spare point in its room as it was at the start, or, where no liberty of the chain has one, any
pub step_allowed : {n : ℕ} {near : Near} → Graph n near → {b d : Board} {c y : ℕ} → FewRooms near b c → Frame near b c d → Liberty near d c y →
    Spare near b c y ⊎ ((z : ℕ) → Liberty near d c z → AllBeside near b c z) → Breathes near (after n near d y) yours y
step_allowed {n} {near} g {b} {d} {c} {y} few f l choice = elim choice [ inl s ↦ with_spare s | inr all ↦ without all ]
  where
    e : Board
    e = after n near d y

    m : Made near d y e
    m = after_made g d y l.is

    -- an empty point of the start's room, still empty, gives the stone breath
    reach : (z : ℕ) → OneRoom near b y z → z ≢ y → d z ≡ none → Breathes near e yours y
    reach z way other empty = walk (λ r h. stays_clear (frame_made g f l m) r (clear_cases b r h)) m.there way (m.empty z other empty)

    with_spare : Spare near b c y → Breathes near e yours y
    with_spare s = reach s.point s.inside other empty
      where
        other : s.point ≢ y
        other q = s.away (subst (Beside near b c) (sym q) (liberty_back f l).beside)

        empty : d s.point ≡ none
        empty = elim (f.none_filled s.point s.is) [ inl z ↦ z | inr filled ↦ absurd (s.away filled.1) ]

    without : ((z : ℕ) → Liberty near d c z → AllBeside near b c z) → Breathes near e yours y
    without all = elim (breathes_or_not g (with_stone y d) mine c) [ inl breath ↦ another breath | inr stifled ↦ last stifled ]
      where
        another : Breathes near (with_stone y d) mine c → Breathes near e yours y
        another breath = reach z (few y z (liberty_back f l) (liberty_back f k) (all y l) (all z k)) free.0 free.1
          where
            z : ℕ
            z = breath.empty

            free : (z ≢ y) × (d z ≡ none)
            free = put_was y d z none (none_yours refl) breath.is

            k : Liberty near d c z
            k = record { beside = record { stone = breath.stone; chain = chain_before_stone y d breath.chain; next = breath.next }; is = free.1 }

        last : (Breathes near (with_stone y d) mine c → ⊥) → Breathes near e yours y
        last stifled = record {
          stone = y;
          chain = at m.there;
          empty = s;
          next = g.symmetric s y l.beside.next;
          is = m.taken s (joined_last j) (λ breath. stifled (breathes_along (chain_with_stone y l.is j) breath));
        }
          where
            s : ℕ
            s = l.beside.stone

            j : Joined near d mine c s
            j = l.beside.chain

-- a chain that breathes has a liberty
pub breath_liberty : {near : Near} {b : Board} {c : ℕ} → Breathes near b mine c → (y : ℕ) × Liberty near b c y
breath_liberty breath = (breath.empty, record { beside = record { stone = breath.stone; chain = breath.chain; next = breath.next }; is = breath.is })

-- a chain that breathes has a liberty that may be played next
pub next_liberty : {n : ℕ} {near : Near} → Graph n near → (b d : Board) (c : ℕ) → Breathes near d mine c →
    (y : ℕ) × Liberty near d c y × (Spare near b c y ⊎ ((z : ℕ) → Liberty near d c z → AllBeside near b c z))
next_liberty {n} {near} g b d c breath = go (find n each)
  where
    each : (y : ℕ) → (Liberty near d c y → AllBeside near b c y) ⊎ (Liberty near d c y × Spare near b c y)
    each y = elim (all_beside_or_spare g b c y) [
      | inl all ↦ inl (λ l. all)
      | inr spare ↦ elim (liberty_or_not g d c y) [ inl l ↦ inr (l, spare) | inr away ↦ inl (λ l. absurd (away l)) ]
    ]

    go : ((y : ℕ) → y < n → Liberty near d c y → AllBeside near b c y) ⊎ ((y : ℕ) × (y < n) × (Liberty near d c y × Spare near b c y)) →
        (y : ℕ) × Liberty near d c y × (Spare near b c y ⊎ ((z : ℕ) → Liberty near d c z → AllBeside near b c z))
    go (inl all) = let (y, l) = breath_liberty breath in (y, l, inr (λ z k. all z (beside_below g k.beside) k))
    go (inr found) = (found.0, found.2.0, inl found.2.1)

-- whether a point is empty on both boards
abbrev pub empty_both : Board → Board → ℕ → Bool
empty_both b d p = is_state none (b p) && is_state none (d p)

-- the number of points that are empty on the start board and on the present one falls with each move at a liberty
pub step_falls : {n : ℕ} {near : Near} → Graph n near → {b d e : Board} {c y : ℕ} → Frame near b c d → Liberty near d c y → Played near d y e →
    count (empty_both b e) n < count (empty_both b d) n
step_falls {n} g {b} {d} {e} {c} {y} f l m = count_less (empty_both b d) (empty_both b e) n y kept (beside_below g l.beside) there gone
  where
    kept : (p : ℕ) → p < n → empty_both b e p ≡ true → empty_both b d p ≡ true
    kept p small h =
        let parts = and_parts (is_state none (b p)) (is_state none (e p)) h in
        and_from (is_state none (b p)) (is_state none (d p)) parts.0 (elim (f.none_filled p (is_state_true none (b p) parts.0)) [
          | inl z ↦ state_is none (d p) z
          | inr filled ↦ absurd (none_yours (is_state_true none (e p) parts.1) (m.stands p filled.0))
        ])

    there : empty_both b d y ≡ true
    there = and_from (is_state none (b y)) (is_state none (d y)) (state_is none (b y) (liberty_back f l).is) (state_is none (d y) l.is)

    gone : empty_both b e y ≡ false
    gone = and_right (is_state none (b y)) (is_state none (e y)) (state_is_not none (e y) (λ z. none_yours z m.there))

-- what taking the chain of c comes to: a row of moves from board d, within the frame of the start board, after which c is gone
abbrev pub Taken : ℕ → Near → Board → ℕ → Board → Type 0
Taken n near b c d = (xs : List ℕ) × (e : Board) × Inside n xs × Plays near d xs e × Frame near b c e × (e c ≡ none)

-- the chain is taken from wherever the play has come to
pub take_from : {n : ℕ} {near : Near} → Graph n near → (b : Board) (c : ℕ) → FewRooms near b c →
    (k : ℕ) (d : Board) → Stand n near d → Frame near b c d → d c ≡ mine → count (empty_both b d) n < k → Taken n near b c d
take_from g b c few zero d stand f h fuel = absurd (omega arith)
take_from {n} {near} g b c few (suc k) d stand f h fuel = go (take_from g b c few k)
  where
    go : ((e : Board) → Stand n near e → Frame near b c e → e c ≡ mine → count (empty_both b e) n < k → Taken n near b c e) → Taken n near b c d
    go later = elim (f_next.mine_go c (was_mine f c h)) [
      | inl stands ↦ (let (xs, last, inside, plays, frame, gone) = later e (goes_on g stand m) f_next stands (omega (arith, step_falls g f l m)) in
          (y ∷ xs, last, inside_more n y xs small inside, Plays.then m plays, frame, gone))
      | inr gone ↦ (y ∷ [], e, inside_more n y [] small (λ i i_small. omega arith), Plays.then m Plays.no_more, f_next, gone)
    ]
      where
        chosen : (y : ℕ) × Liberty near d c y × (Spare near b c y ⊎ ((z : ℕ) → Liberty near d c z → AllBeside near b c z))
        chosen = next_liberty g b d c (stand.mine_breathe c h)

        y : ℕ
        y = chosen.0

        l : Liberty near d c y
        l = chosen.1

        small : y < n
        small = beside_below g l.beside

        e : Board
        e = after n near d y

        m : Played near d y e
        m = after_played g d y l.is (step_allowed g few f l chosen.2)

        f_next : Frame near b c e
        f_next = step_frame g f l m

-- a chain with at most one vital room can be taken, the other side playing on nothing but its liberties
pub take_chain : {n : ℕ} {near : Near} → Graph n near → (b : Board) → Stand n near b → (c : ℕ) → b c ≡ mine → FewRooms near b c →
    (xs : List ℕ) × (d : Board) × Inside n xs × Plays near b xs d × Frame near b c d × (d c ≡ none)
take_chain {n} g b stand c h few = take_from g b c few (suc (count (empty_both b b) n)) b stand frame_start h (omega arith)
