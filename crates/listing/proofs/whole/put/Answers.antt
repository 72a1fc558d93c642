use Rattle.std.proofs.Common.{refl}
use Rattle.listing.proofs.whole.put.Goals as goal

pub returns : goal.returns
returns c = record {
  entry = record { chain = c.in_ok-chain.chain; figure = c.args.figure };
  behind = c.in_ok-push.ensures.items;
  numbers_told = c.in_ok-chain.ensures.items_if_clones_equal (λ x y same. same);
  amount = refl;
}
