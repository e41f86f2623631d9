-- Labels that were copied are labels.
use Rattle.std.proofs.Common.{◌≡◌, ℕ, ◌<◌, ◌≤◌, ◌≢◌, List, ◌++◌, length, get_or, take, drop, sym, ap, ◌∙◌, subst, inl, inr, arith}
use Rattle.std.proofs.lemmas.List.{get_or_append_left, get_or-take, length-take-le}
use Rattle.std.proofs.lemmas.Slice.{drop-append-drop}
use Rattle.grid.specs.Graph.{Near, Graph}
use Rattle.grid.specs.declared.size.Size.{Size}
use Rattle.grid.proofs.Square.{graph}
use Rattle.chains.specs.Board.{State, none, Board, Joined}
use Rattle.chains.specs.Labels.{ChainLabels}
use Rattle.chains.specs.Sized.{count_of, seen}
use Rattle.chains.specs.Stands.{Stands}
use Rattle.chains.specs.declared.colour.Colour.{Colour}
use Rattle.chains.proofs.Chain.{joined_first, joined_last}
use Rattle.rooms.specs.Numbered.{RoomLabels}
use Rattle.rooms.specs.Regions.{OneRoom}
use Rattle.rooms.proofs.Regions.{linked_below}
use Rattle.capture.specs.Showing.{LabelsWritten}

-- entries that agree on the board name the same chains
pub chains_copied : {n : ℕ} {near : Near} {b : Board} {xs ys : List ℕ} → ((p : ℕ) → b p ≢ none → p < n) → ((p : ℕ) → p < n → get_or ys p 0 ≡ get_or xs p 0) → ChainLabels n near b xs → ChainLabels n near b ys
chains_copied {n} {near} {b} {xs} {ys} inside same l =
    record {
      empty = λ p below e. same p below ∙ l.empty p below e;
      joined = λ c p stone is. subst (Joined near b c p) (sym (at_stone c p stone is)) (l.joined c p stone is);
      least = λ c p q stone j. subst (λ (i : ℕ). i ≤ q) (sym (at_stone c p stone (joined_first j))) (l.least c p q stone j);
      one_entry = λ c p q stone j. at_stone c p stone (joined_first j) ∙ (l.one_entry c p q stone j ∙ sym (at_stone c q stone (joined_last j)));
      one_chain = λ c p q stone is there e. l.one_chain c p q stone is there (sym (at_stone c p stone is) ∙ (e ∙ same q (inside q there)));
    }
  where
    at_stone : (c : State) (p : ℕ) → c ≢ none → b p ≡ c → get_or ys p 0 ≡ get_or xs p 0
    at_stone c p stone is = same p (inside p (λ z. stone (sym is ∙ z)))

-- and the same rooms
pub rooms_copied : {n : ℕ} {near : Near} → Graph n near → {b : Board} {xs ys : List ℕ} → ((p : ℕ) → p < n → get_or ys p 0 ≡ get_or xs p 0) → RoomLabels n near b xs → RoomLabels n near b ys
rooms_copied {n} {near} g {b} {xs} {ys} same l =
    record {
      own = λ p below m. same p below ∙ l.own p below m;
      linked = λ y below clear. subst (OneRoom near b y) (sym (same y below)) (l.linked y below clear);
      least = λ y z below way. subst (λ (i : ℕ). i ≤ z) (sym (same y below)) (l.least y z below way);
      one_entry = λ y z below way. same y below ∙ (l.one_entry y z below way ∙ sym (same z (reached below way)));
      same_room = λ y z y_below z_below y_clear z_clear e. l.same_room y z y_below z_below y_clear z_clear (sym (same y y_below) ∙ (e ∙ same z z_below));
    }
  where
    reached : {y z : ℕ} → y < n → OneRoom near b y z → z < n
    reached below way = elim (linked_below g way) [ inl e ↦ subst (λ (i : ℕ). i < n) (sym e) below | inr h ↦ h ]

-- the first k entries are written over
front_copied : (own ys old : List ℕ) (k : ℕ) → k ≤ length own → ys ≡ take k own → (p : ℕ) → p < k → get_or (ys ++ drop k old) p 0 ≡ get_or own p 0
front_copied own ys old k long e p l =
    get_or_append_left ys (drop k old) 0 p (omega (arith, front_long)) ∙ ap (λ (xs : List ℕ). get_or xs p 0) e ∙ get_or-take k own p 0 l
  where
    front_long : length ys ≡ k
    front_long = ap length e ∙ length-take-le k own long

past_kept : (own ys old : List ℕ) (k : ℕ) → k ≤ length own → ys ≡ take k own → drop k (ys ++ drop k old) ≡ drop k old
past_kept own ys old k long e = drop-append-drop k old ys k (omega arith) (ap length e ∙ length-take-le k own long)

-- the labels of a position, copied into lent memory
pub labels_copied : {size : Size} {cells : List ℕ} {colour : Colour} {lent_chains lent_rooms own_chains own_rooms : List ℕ} (k : ℕ) → k ≡ count_of size → k ≤ length own_chains → k ≤ length own_rooms →
    ((side : Colour) → Stands size.width size.height (seen size cells side)) → LabelsWritten size cells colour lent_chains lent_rooms own_chains own_rooms →
    (chains rooms old_chains old_rooms : List ℕ) → chains ≡ take k own_chains → rooms ≡ take k own_rooms →
    LabelsWritten size cells colour old_chains old_rooms (chains ++ drop k old_chains) (rooms ++ drop k old_rooms)
labels_copied {size} {own_chains = own_chains} {own_rooms = own_rooms} k e chains_long rooms_long stands own chains rooms old_chains old_rooms chains_are rooms_are =
    record {
      chained = λ side. chains_copied (stands side).inside (λ p l. front_copied own_chains chains old_chains k chains_long chains_are p (omega arith)) (own.chained side);
      roomed = rooms_copied (graph size.width size.height) (λ p l. front_copied own_rooms rooms old_rooms k rooms_long rooms_are p (omega arith)) own.roomed;
      chains_past = subst (λ (n : ℕ). drop n (chains ++ drop k old_chains) ≡ drop n old_chains) e (past_kept own_chains chains old_chains k chains_long chains_are);
      rooms_past = subst (λ (n : ℕ). drop n (rooms ++ drop k old_rooms) ≡ drop n old_rooms) e (past_kept own_rooms rooms old_rooms k rooms_long rooms_are);
    }
