-- Sets of rooms, one for each chain, as two passes over the points make them from the labels of chains and rooms.
-- An own stone has no room and an empty point no chain: their labels are 65,535. Assumes nothing: these are definitions.
use Rattle.std.specs.Prelude.{◌≡◌, ℕ, ◌<◌, ◌≤◌, Bool, false, cond, not, ◌&&◌, ◌||◌, ◌≢◌, List, [], length, Some, None, Option, ◌==◌, nat_le, nat_lt, slice_index, slice_index_or, slice_set}
use Rattle.std.specs.List.{list_any}
use Rattle.grid.specs.Neighbours.{neighbours_of}
use Rattle.grid.specs.Refusals.{unless}
use Rattle.grid.specs.declared.size.Size.{Size}
use Rattle.chains.specs.Computed.{any}
use Rattle.rooms.specs.Bits.{member}
use Rattle.rooms.specs.declared.room_set.RoomSet.{RoomSet}

-- the words of the set for the number c; a number that is not there has none
abbrev pub set_of : List RoomSet → ℕ → List ℕ
set_of sets c = (slice_index_or sets c (record { words = [] })).words

-- whether the room i is in the set for the number c
abbrev pub holds : List RoomSet → ℕ → ℕ → Bool
holds sets c i = member (set_of sets c) i

-- the set for the number c has no room
abbrev pub NoRoom : List RoomSet → ℕ → Type 0
NoRoom sets c = (i : ℕ) → holds sets c i ≡ false

-- the labels reach over the board, those of own stones' chains and of rooms are points
pub record Paired (n : ℕ) (chains rooms : List ℕ) : Type 0 where
  pub chains_long : n ≤ length chains
  pub rooms_long : n ≤ length rooms
  pub own_chain : (q : ℕ) → q < n → slice_index rooms q ≡ 65535 → slice_index chains q < n
  pub room_below : (y : ℕ) → y < n → slice_index rooms y ≢ 65535 → slice_index rooms y < n

-- the chain of the own stone on q, if one stands there
abbrev pub own_chain : List ℕ → List ℕ → ℕ → Option ℕ
own_chain chains rooms q = cond (slice_index rooms q == 65535) (Some (slice_index chains q)) None

-- whether that is the chain c
abbrev pub is_chain : ℕ → Option ℕ → Bool
is_chain c None = false
is_chain c (Some d) = c == d

-- whether a stone of the chain c is among these points
abbrev pub meets : List ℕ → List ℕ → ℕ → List ℕ → Bool
meets chains rooms c = list_any (λ q. is_chain c (own_chain chains rooms q))

-- whether a stone of the chain c is beside p
abbrev pub touches : Size → List ℕ → List ℕ → ℕ → ℕ → Bool
touches size chains rooms p c = meets chains rooms c (neighbours_of size.width size.height p)

-- whether y is a point of the room i
abbrev pub in_room : List ℕ → ℕ → ℕ → Bool
in_room rooms i y = not (slice_index rooms y == 65535) && slice_index rooms y == i

-- whether the room i has a point below k beside the chain c
abbrev pub wall_bit : (ℕ → ℕ → Bool) → List ℕ → ℕ → ℕ → ℕ → Bool
wall_bit touch rooms k c i = any (λ y. in_room rooms i y && touch y c) k

-- whether e is an empty point of the room i
abbrev pub empty_in : List ℕ → List ℕ → ℕ → ℕ → Bool
empty_in chains rooms i e = slice_index chains e == 65535 && slice_index rooms e == i

-- whether the room i has an empty point below k
abbrev pub some_empty : List ℕ → List ℕ → ℕ → ℕ → Bool
some_empty chains rooms k i = any (empty_in chains rooms i) k

-- whether the room i has an empty point below k that is not beside the chain c
abbrev pub some_away : (ℕ → ℕ → Bool) → List ℕ → List ℕ → ℕ → ℕ → ℕ → Bool
some_away touch chains rooms k c i = any (λ e. empty_in chains rooms i e && not (touch e c)) k

-- whether the room i has an empty point below k, and each of these is beside the chain c
abbrev pub vital_bit : (ℕ → ℕ → Bool) → List ℕ → List ℕ → ℕ → ℕ → ℕ → Bool
vital_bit touch chains rooms k c i = some_empty chains rooms k i && not (some_away touch chains rooms k c i)

-- the bit after the room has been put into the sets of the chains beside p
abbrev pub put_bit : (ℕ → ℕ → Bool) → ℕ → ℕ → ℕ → ℕ → Bool → Bool
put_bit touch p room c i was = was || (i == room && touch p c)

-- the bit after the room has been taken out of the sets of the chains beside the point `from` that are not beside p
abbrev pub keep_bit : (ℕ → ℕ → Bool) → ℕ → ℕ → ℕ → ℕ → ℕ → Bool → Bool
keep_bit touch from p room c i was = was && not (i == room && (touch from c && not (touch p c)))

-- the bit after an empty point p of the room, by the first empty point of that room so far
abbrev pub empty_bit : (ℕ → ℕ → Bool) → Option ℕ → ℕ → ℕ → ℕ → ℕ → Bool → Bool
empty_bit touch None p room c i was = put_bit touch p room c i was
empty_bit touch (Some first) p room c i was = keep_bit touch first p room c i was

-- the first empty points after an empty point p of the room, by the one that was known of that room
abbrev pub empty_firsts : List (Option ℕ) → ℕ → ℕ → Option ℕ → List (Option ℕ)
empty_firsts firsts p room None = slice_set firsts room (Some p)
empty_firsts firsts p room (Some first) = firsts

-- the bit of a wall after the point p
abbrev pub wall_next : (ℕ → ℕ → Bool) → List ℕ → ℕ → ℕ → ℕ → Bool → Bool
wall_next touch rooms p c i was = cond (slice_index rooms p == 65535) was (put_bit touch p (slice_index rooms p) c i was)

-- the bit of a vital room after the point p
abbrev pub vital_next : (ℕ → ℕ → Bool) → List ℕ → List ℕ → List (Option ℕ) → ℕ → ℕ → ℕ → Bool → Bool
vital_next touch chains rooms firsts p c i was =
    cond (slice_index chains p == 65535) (empty_bit touch (slice_index_or firsts (slice_index rooms p) None) p (slice_index rooms p) c i was) was

-- and the first empty points
abbrev pub firsts_next : List ℕ → List ℕ → List (Option ℕ) → ℕ → List (Option ℕ)
firsts_next chains rooms firsts p =
    cond (slice_index chains p == 65535) (empty_firsts firsts p (slice_index rooms p) (slice_index_or firsts (slice_index rooms p) None)) firsts

-- whether c is the first point of an own chain
abbrev pub own_first : List ℕ → List ℕ → ℕ → Bool
own_first chains rooms c = is_chain c (own_chain chains rooms c)

-- the bit after all rooms have been taken out of the sets of the own chains whose first points are below k
abbrev pub clear_bit : List ℕ → List ℕ → ℕ → ℕ → Bool → Bool
clear_bit chains rooms k c was = was && not (nat_lt c k && own_first chains rooms c)

-- the sets of the numbers that no stone beside a point has for its chain are as they were
abbrev pub RestKept : (ℕ → ℕ → Bool) → List RoomSet → List RoomSet → Type 0
RestKept touch was is = (c i : ℕ) → ((p : ℕ) → touch p c ≡ false) → holds is c i ≡ holds was c i

-- why chains and rooms of a board of n points cannot be written: too few entries
abbrev pub regions_refusal : ℕ → List ℕ → List ℕ → Option (ℕ × ℕ)
regions_refusal n chains rooms = unless (nat_le n (length chains)) (12, 1) (unless (nat_le n (length rooms)) (12, 2) None)
