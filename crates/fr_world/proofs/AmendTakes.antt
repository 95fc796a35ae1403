-- Edits that a page takes: a release, and a node where there is room.
use Rattle.std.proofs.Common.{◌<◌, length, inr, refl, sym, subst}
use Rattle.std.specs.List.Sorted.{IsStrictlySortedBy}
use Rattle.fr_base.specs.declared.limits.TheConstants.{MAX_NODES}
use Rattle.fr_base.specs.Tables.{len}
use Rattle.fr_base.specs.Keys.{owned}
use Rattle.fr_base.specs.declared.name.Name.{Name}
use Rattle.fr_base.proofs.SoundTables.{len-within}
use Rattle.fr_world.specs.Amends.{nodes_of}
use Rattle.fr_world.specs.Edits.{Takes, edited}
use Rattle.fr_world.specs.Pages.{PageData, IsKept, own_rows_of}
use Rattle.fr_world.specs.declared.edit.Edit.TheVariants.{NewNode, SetReleased}
use Rattle.fr_world.proofs.KeyLaws.{name_cmp, own_alike}
use Rattle.fr_world.proofs.MapLaws.{len-set_of}

pub release_takes : (rows : PageData) → IsKept rows → Takes rows.variant (own_rows_of rows) (SetReleased rows.variant)
unfolding edited
release_takes rows kept = record { own = refl; leaves = kept.page }

pub node_takes : (rows : PageData) (node : Name) → IsKept rows → IsStrictlySortedBy name_cmp rows.nodes → length rows.nodes < MAX_NODES → Takes rows.variant (own_rows_of rows) (NewNode rows.supplier node)
unfolding edited
node_takes rows node kept in_order room =
    let few : len (nodes_of rows.supplier rows.nodes) < MAX_NODES = subst (λ n. n < MAX_NODES) (sym (len-set_of name_cmp owned (λ x. (rows.supplier, x)) (own_alike rows.supplier) rows.nodes in_order)) room in
    record {
      own = refl;
      leaves = record {
        nodes = len-within (nodes_of rows.supplier rows.nodes) (rows.supplier, node) tt MAX_NODES kept.page.nodes (inr few);
        frames = kept.page.frames;
        each = λ k f e. let was = kept.page.each k f e in record { few = was.few; fits = was.fits; in_grants = was.in_grants; layout = was.layout };
        apart = kept.page.apart;
      };
    }
