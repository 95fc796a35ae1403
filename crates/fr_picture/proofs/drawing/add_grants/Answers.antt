use Rattle.std.proofs.Common.{◌∙◌, refl}
use Rattle.fr_picture.proofs.LaneLemmas.{perm_none, perm_more, held_none, held_more}
use Rattle.fr_picture.proofs.drawing.add_grants.Goals as goal

pub loop-grant-init : goal.loop-grant-init
loop-grant-init c = record {
  len = c.requires;
  drawn = perm_none _ c.args.grants.now;
  held = held_none _ c.args.grants.now;
  still = λ k l. refl;
  others = refl;
  apart = λ h. h;
  filled = λ h. h;
  at = λ channels shift columns h. h;
  home = λ h. h;
}

pub loop-grant-preserved : goal.loop-grant-preserved
loop-grant-preserved c =
    let was = c.loop-grant.invariant in
    let now = c.in_ok-add_grant.ensures in
    record {
      len = now.len;
      drawn = perm_more _ _ _ c.args.grants.now c.loop-grant.grant-index c.grant-item.result c.loop-grant-test.true c.grant-item.is was.drawn now.grants;
      held = held_more _ _ _ c.args.grants.now c.loop-grant.grant-index c.grant-item.result c.loop-grant-test.true c.grant-item.is was.held now.held_in_turn;
      still = λ k l. now.still k l ∙ was.still k l;
      others = now.cells ∙ was.others;
      apart = λ h. now.apart (was.apart h);
      filled = λ h. now.filled (was.filled h);
      at = λ channels shift columns h. now.at channels shift columns (was.at channels shift columns h);
      home = λ h. now.home (was.home h);
    }
