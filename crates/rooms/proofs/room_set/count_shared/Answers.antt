use Rattle.std.proofs.Common.{ℕ, ◌∙◌, arith, rules}
use lib.Count.{ones}
use lib.Bits.{bit_and}
use Rattle.std.specs.List.{zip}
use Rattle.std.proofs.lemmas.Iterator.{YieldsList-from_slice, YieldsList-from_zip, YieldsList-from_map}
use Rattle.std.proofs.lemmas.Iterator.Consumers.{sum_by_from_yields_List, fits_by_from_yields_list, YieldsList-at}
use Rattle.rooms.proofs.Sets.{shared_words, shared_bound}
use Rattle.rooms.proofs.room_set.count_shared.Goals as goal

pub sum-requires-clause-fits : goal.sum-requires-clause-fits
sum-requires-clause-fits c = fits_by_from_yields_list (λ (p : ℕ × ℕ). ones (bit_and p.0 p.1)) (zip c.args.one.now c.args.two.now) c.map.result 4294967296
    (YieldsList-from_map _ (λ (p : ℕ × ℕ). ones (bit_and p.0 p.1)) (YieldsList-at c.map.ensures.source (YieldsList-from_zip (YieldsList-from_slice c.args.one.now (search rules)) (YieldsList-from_slice c.args.two.now (search rules)))) c.map.ensures.closure (λ x r q k. search rules))
    (omega (arith, shared_words c.args.one.now c.args.two.now 6 (search rules) (search rules) (λ k l. search rules), shared_bound 384 c.args.one.now c.args.two.now))

pub returns : goal.returns
returns c = sum_by_from_yields_List (λ (p : ℕ × ℕ). ones (bit_and p.0 p.1)) (zip c.args.one.now c.args.two.now) c.map.result c.sum.result c.sum.ensures.ran
    (YieldsList-from_map _ (λ (p : ℕ × ℕ). ones (bit_and p.0 p.1)) (YieldsList-at c.map.ensures.source (YieldsList-from_zip (YieldsList-from_slice c.args.one.now (search rules)) (YieldsList-from_slice c.args.two.now (search rules)))) c.map.ensures.closure (λ x r q k. search rules))
    ∙ shared_words c.args.one.now c.args.two.now 6 (search rules) (search rules) (λ k l. search rules)
