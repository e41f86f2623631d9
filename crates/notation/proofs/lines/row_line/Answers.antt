-- A row is printed byte by byte, each of which is ASCII.
use Rattle.std.proofs.Common.{◌≡◌, ℕ, ◌<◌, Bool, true, false, cond, List, [], ◌∷◌, map, refl, ap, ◌∙◌, arith, rules}
use Rattle.std.proofs.lemmas.Bool.Decides.{nat_tests}
use Rattle.std.proofs.lemmas.Iterator.{YieldsList-from_map, YieldsList-from_slice, text_from_collect}
use Rattle.std.proofs.lemmas.Result.{IfOk-weaker}
use Rattle.std.proofs.lemmas.Str.Ascii.{IsAscii-nil, IsAscii-cons, encodes-IsAscii}
use Rattle.std.specs.Str.{IsAscii}
use Rattle.notation.specs.Lines.{shown}
use Rattle.notation.proofs.lines.row_line.Goals as goal

shown_ascii : (byte : ℕ) → shown byte < 128
shown_ascii byte = grind (arith, nat_tests)

row_ascii : (bytes : List ℕ) → IsAscii (map shown bytes)
row_ascii [] = IsAscii-nil
row_ascii (byte ∷ bytes) = IsAscii-cons (shown byte) (map shown bytes) (shown_ascii byte) (row_ascii bytes)

-- a row that is not there prints nothing
no_row : (there : Bool) (row : List ℕ) → map shown (cond there row []) ≡ cond there (map shown row) []
no_row true row = refl
no_row false row = refl

pub returns : goal.returns
returns c =
    let row = c.row_of.result.now in
    IfOk-weaker c.collect.result _ _ (λ text e. e ∙ (encodes-IsAscii (map shown row) (row_ascii row) ∙ (ap (map shown) c.row_of.ensures ∙ no_row _ _)))
    (text_from_collect c.collect.result c.collect.ensures.ran (YieldsList-from_map _ shown (YieldsList-from_slice row cc) c.map.ensures.closure (λ x r q k. search rules)))
