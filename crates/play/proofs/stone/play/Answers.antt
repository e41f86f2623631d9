use Rattle.std.proofs.Common.{◌≡◌, length, refl, rules}
use Rattle.std.proofs.lemmas.Result.{err_from_is_err_and}
use Rattle.play.proofs.Lent.{play_refused, play_played}
use Rattle.play.proofs.stone.play.Goals as goal

pub returns-in_err-played : goal.returns-in_err-played
returns-in_err-played c =
    let long : length c.in_ok-position.position.cells ≡ 361 = search rules in
    let p = err_from_is_err_and c.from_residual-in_err-played.result c.from_residual-in_err-played.ensures.1 in
    let made = c.in_ok-position.ensures in
    rw (p.1, p.2) (play_refused c.in_ok-position.position long made.0 made.1 made.2 c.in_err-played.ensures, refl)

pub returns : goal.returns
returns c =
    let long : length c.in_ok-position.position.cells ≡ 361 = search rules in
    let few : length c.in_ok-played.played.position.cells ≡ 361 = search rules in
    let made = c.in_ok-position.ensures in
    let after = c.in_ok-played.ensures in
    play_played c.in_ok-position.position c.in_ok-played.played.position long few made.0 made.1 made.2 after.0 after.1 c.in_ok-write.ensures.1
