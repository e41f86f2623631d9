-- Rows of moves of the other side.
use Rattle.std.proofs.Common.{ℕ, zero, suc, ◌+◌, ◌<◌, ◌≤◌, List, [], ◌∷◌, ◌++◌, length, arith}
use Rattle.grid.specs.Graph.{Near, Graph}
use Rattle.chains.specs.Board.{yours, Board}
use Rattle.chains.specs.Stands.{Stand}
use Rattle.chains.specs.Computed.{is_state, count}
use Rattle.chains.proofs.States.{is_state_true, state_is, state_is_not, none_yours}
use Rattle.chains.proofs.Below.{count_bound, count_less}
use Rattle.play.specs.Played.{Played, Comes, start, Plays, no_more, Inside}
use Rattle.play.proofs.Moves.{goes_on}

-- one row after another
pub plays_append : {near : Near} {b c d : Board} {xs ys : List ℕ} → Plays near b xs c → Plays near c ys d → Plays near b (xs ++ ys) d
plays_append no_more k = k
plays_append (Plays.then p l) k = Plays.then p (plays_append l k)

-- what comes of what comes of a board comes of it
pub comes_trans : {near : Near} {b c d : Board} → Comes near b c → Comes near c d → Comes near b d
comes_trans h start = h
comes_trans h (Comes.then x k p) = Comes.then x (comes_trans h k) p

-- a row of moves comes to its last board
pub plays_comes : {near : Near} {b d : Board} {xs : List ℕ} → Plays near b xs d → Comes near b d
plays_comes no_more = start
plays_comes (Plays.then {x = x} p l) = comes_trans (Comes.then x start p) (plays_comes l)

-- boards that can stand go on standing over a row of moves
pub plays_stand : {n : ℕ} {near : Near} → Graph n near → {b d : Board} {xs : List ℕ} → Stand n near b → Plays near b xs d → Stand n near d
plays_stand g s no_more = s
plays_stand g s (Plays.then p l) = plays_stand g (goes_on g s p) l

-- how many stones of yours stand on n points
abbrev yours_below : ℕ → Board → ℕ
yours_below n b = count (λ q. is_state yours (b q)) n

-- one move adds a stone of yours
played_more : {n : ℕ} {near : Near} {b d : Board} {x : ℕ} → x < n → Played near b x d → yours_below n b < yours_below n d
played_more {n} {near} {b} {d} {x} h p =
    count_less (λ q. is_state yours (d q)) (λ q. is_state yours (b q)) n x
    (λ q l e. state_is yours (d q) (p.stands q (is_state_true yours (b q) e)))
    h
    (state_is yours (d x) p.there)
    (state_is_not yours (b x) (λ y. none_yours p.was y))

-- the first move is inside
pub inside_first : (n x : ℕ) (xs : List ℕ) → Inside n (x ∷ xs) → x < n
inside_first n x xs h = h 0 (omega arith)

-- the moves after the first are inside too
pub inside_rest : (n x : ℕ) (xs : List ℕ) → Inside n (x ∷ xs) → Inside n xs
inside_rest n x xs h i l = h (suc i) (omega arith)

-- one move more in front
pub inside_more : (n x : ℕ) (xs : List ℕ) → x < n → Inside n xs → Inside n (x ∷ xs)
inside_more n x xs h k zero l = h
inside_more n x xs h k (suc i) l = k i (omega arith)

-- two rows that are inside
pub inside_append : (n : ℕ) (xs ys : List ℕ) → Inside n xs → Inside n ys → Inside n (xs ++ ys)
inside_append n [] ys h k = k
inside_append n (x ∷ xs) ys h k = inside_more n x (xs ++ ys) (inside_first n x xs h) (inside_append n xs ys (inside_rest n x xs h) k)

plays_more : {n : ℕ} {near : Near} {b d : Board} {xs : List ℕ} → Inside n xs → Plays near b xs d → length xs + yours_below n b ≤ yours_below n d
plays_more h no_more = omega arith
plays_more {n} h (Plays.then {b = b} {c = c} {d = d} {x = x} {xs = xs} p l) = omega (arith, plays_more (inside_rest n x xs h) l, played_more (inside_first n x xs h) p)

-- each move puts a stone that never leaves on a point of its own: a row of moves inside n points has at most n
pub plays_bound : {n : ℕ} {near : Near} {b d : Board} {xs : List ℕ} → Inside n xs → Plays near b xs d → length xs ≤ n
plays_bound {n} {d = d} h l = omega (arith, plays_more h l, count_bound (λ q. is_state yours (d q)) n)
