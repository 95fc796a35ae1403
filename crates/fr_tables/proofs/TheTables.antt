-- Each table of the register, as its statements see it.
use Rattle.std.proofs.Common.{◌≡◌, lit≤, ℕ, slice_get, List, ◌∷◌, None, Some, Option, refl}
use Rattle.sqlite.specs.declared.types.Value.{Value}
use Rattle.fr_tables.specs.Schema.{layout_of, tables_at, cluster2_at, register, cluster, suppliers, nodes, variants, grants, frames, placements, signals, imports, dropped}
use Rattle.fr_tables.specs.Rows.{VariantRow, of_maybe, maybe_words, of_register, of_cluster, of_supplier, of_node, of_variant, of_grant, of_frame, of_placement, of_signal, of_import, of_dropped, of_cluster2, register_in, cluster_in, supplier_in, node_in, variant_in, grant_in, frame_in, placement_in, signal_in, import_in, dropped_in, cluster2_in}
use Rattle.fr_tables.proofs.TableOf.{TableOf}
use Rattle.fr_tables.proofs.ChangeLemmas.{written, unlike, alike, apart, apart_back, itself}

abbrev pub register_table : TableOf of_register register_in
register_table = record {
  table = λ l. register;
  at = λ l. 0;
  place = λ l. refl;
  uncounted = λ l. refl;
  rows = λ t. t.register;
  put = λ rows t. record t { register = rows };
  are = λ db. refl;
  again = λ id row. refl;
  kept = λ db was. was.register;
  made = λ old new was f w made. written old new was 0 w (λ t. record t { register = f t.register })
      (record { register = made; cluster = refl; suppliers = refl; nodes = refl; variants = refl; grants = refl; frames = refl; placements = refl; signals = refl; imports = refl; dropped = refl; cluster2 = unlike _ (apart (layout_of old.now.trees).cluster2 0 was.behind.0.0 (lit≤ tt)) refl });
}

abbrev pub cluster_table : TableOf of_cluster cluster_in
cluster_table = record {
  table = λ l. cluster;
  at = λ l. 1;
  place = λ l. refl;
  uncounted = λ l. refl;
  rows = λ t. t.cluster;
  put = λ rows t. record t { cluster = rows };
  are = λ db. refl;
  again = λ id row. refl;
  kept = λ db was. was.cluster;
  made = λ old new was f w made. written old new was 1 w (λ t. record t { cluster = f t.cluster })
      (record { register = refl; cluster = made; suppliers = refl; nodes = refl; variants = refl; grants = refl; frames = refl; placements = refl; signals = refl; imports = refl; dropped = refl; cluster2 = unlike _ (apart (layout_of old.now.trees).cluster2 1 was.behind.0.0 (lit≤ tt)) refl });
}

abbrev pub supplier_table : TableOf of_supplier supplier_in
supplier_table = record {
  table = λ l. suppliers;
  at = λ l. 2;
  place = λ l. refl;
  uncounted = λ l. refl;
  rows = λ t. t.suppliers;
  put = λ rows t. record t { suppliers = rows };
  are = λ db. refl;
  again = λ id row. refl;
  kept = λ db was. was.suppliers;
  made = λ old new was f w made. written old new was 2 w (λ t. record t { suppliers = f t.suppliers })
      (record { register = refl; cluster = refl; suppliers = made; nodes = refl; variants = refl; grants = refl; frames = refl; placements = refl; signals = refl; imports = refl; dropped = refl; cluster2 = unlike _ (apart (layout_of old.now.trees).cluster2 2 was.behind.0.0 (lit≤ tt)) refl });
}

abbrev pub node_table : TableOf of_node node_in
node_table = record {
  table = λ l. nodes;
  at = λ l. 3;
  place = λ l. refl;
  uncounted = λ l. refl;
  rows = λ t. t.nodes;
  put = λ rows t. record t { nodes = rows };
  are = λ db. refl;
  again = λ id row. refl;
  kept = λ db was. was.nodes;
  made = λ old new was f w made. written old new was 5 w (λ t. record t { nodes = f t.nodes })
      (record { register = refl; cluster = refl; suppliers = refl; nodes = made; variants = refl; grants = refl; frames = refl; placements = refl; signals = refl; imports = refl; dropped = refl; cluster2 = unlike _ (apart (layout_of old.now.trees).cluster2 5 was.behind.0.0 (lit≤ tt)) refl });
}

maybe_again : (o : Option (List ℕ)) → maybe_words (of_maybe o) ≡ o
maybe_again None = refl
maybe_again (Some t) = refl

pub variant_again : (id : Value) (v : VariantRow) → variant_in (id ∷ of_variant v) ≡ v
variant_again id v = rw (maybe_again v.parent)

abbrev pub variant_table : TableOf of_variant variant_in
variant_table = record {
  table = λ l. variants;
  at = λ l. 4;
  place = λ l. refl;
  uncounted = λ l. refl;
  rows = λ t. t.variants;
  put = λ rows t. record t { variants = rows };
  are = λ db. refl;
  again = variant_again;
  kept = λ db was. was.variants;
  made = λ old new was f w made. written old new was 7 w (λ t. record t { variants = f t.variants })
      (record { register = refl; cluster = refl; suppliers = refl; nodes = refl; variants = made; grants = refl; frames = refl; placements = refl; signals = refl; imports = refl; dropped = refl; cluster2 = unlike _ (apart (layout_of old.now.trees).cluster2 7 was.behind.0.0 (lit≤ tt)) refl });
}

abbrev pub grant_table : TableOf of_grant grant_in
grant_table = record {
  table = λ l. grants;
  at = λ l. 5;
  place = λ l. refl;
  uncounted = λ l. refl;
  rows = λ t. t.grants;
  put = λ rows t. record t { grants = rows };
  are = λ db. refl;
  again = λ id row. refl;
  kept = λ db was. was.grants;
  made = λ old new was f w made. written old new was 9 w (λ t. record t { grants = f t.grants })
      (record { register = refl; cluster = refl; suppliers = refl; nodes = refl; variants = refl; grants = made; frames = refl; placements = refl; signals = refl; imports = refl; dropped = refl; cluster2 = unlike _ (apart (layout_of old.now.trees).cluster2 9 was.behind.0.0 (lit≤ tt)) refl });
}

abbrev pub frame_table : TableOf of_frame frame_in
frame_table = record {
  table = λ l. frames;
  at = λ l. 6;
  place = λ l. refl;
  uncounted = λ l. refl;
  rows = λ t. t.frames;
  put = λ rows t. record t { frames = rows };
  are = λ db. refl;
  again = λ id row. refl;
  kept = λ db was. was.frames;
  made = λ old new was f w made. written old new was 11 w (λ t. record t { frames = f t.frames })
      (record { register = refl; cluster = refl; suppliers = refl; nodes = refl; variants = refl; grants = refl; frames = made; placements = refl; signals = refl; imports = refl; dropped = refl; cluster2 = unlike _ (apart (layout_of old.now.trees).cluster2 11 was.behind.0.0 (lit≤ tt)) refl });
}

abbrev pub placement_table : TableOf of_placement placement_in
placement_table = record {
  table = λ l. placements;
  at = λ l. 7;
  place = λ l. refl;
  uncounted = λ l. refl;
  rows = λ t. t.placements;
  put = λ rows t. record t { placements = rows };
  are = λ db. refl;
  again = λ id row. refl;
  kept = λ db was. was.placements;
  made = λ old new was f w made. written old new was 13 w (λ t. record t { placements = f t.placements })
      (record { register = refl; cluster = refl; suppliers = refl; nodes = refl; variants = refl; grants = refl; frames = refl; placements = made; signals = refl; imports = refl; dropped = refl; cluster2 = unlike _ (apart (layout_of old.now.trees).cluster2 13 was.behind.0.0 (lit≤ tt)) refl });
}

abbrev pub signal_table : TableOf of_signal signal_in
signal_table = record {
  table = λ l. signals;
  at = λ l. 8;
  place = λ l. refl;
  uncounted = λ l. refl;
  rows = λ t. t.signals;
  put = λ rows t. record t { signals = rows };
  are = λ db. refl;
  again = λ id row. refl;
  kept = λ db was. was.signals;
  made = λ old new was f w made. written old new was 15 w (λ t. record t { signals = f t.signals })
      (record { register = refl; cluster = refl; suppliers = refl; nodes = refl; variants = refl; grants = refl; frames = refl; placements = refl; signals = made; imports = refl; dropped = refl; cluster2 = unlike _ (apart (layout_of old.now.trees).cluster2 15 was.behind.0.0 (lit≤ tt)) refl });
}

abbrev pub import_table : TableOf of_import import_in
import_table = record {
  table = λ l. imports;
  at = λ l. 9;
  place = λ l. refl;
  uncounted = λ l. refl;
  rows = λ t. t.imports;
  put = λ rows t. record t { imports = rows };
  are = λ db. refl;
  again = λ id row. refl;
  kept = λ db was. was.imports;
  made = λ old new was f w made. written old new was 17 w (λ t. record t { imports = f t.imports })
      (record { register = refl; cluster = refl; suppliers = refl; nodes = refl; variants = refl; grants = refl; frames = refl; placements = refl; signals = refl; imports = made; dropped = refl; cluster2 = unlike _ (apart (layout_of old.now.trees).cluster2 17 was.behind.0.0 (lit≤ tt)) refl });
}

abbrev pub dropped_table : TableOf of_dropped dropped_in
dropped_table = record {
  table = λ l. dropped;
  at = λ l. 10;
  place = λ l. refl;
  uncounted = λ l. refl;
  rows = λ t. t.dropped;
  put = λ rows t. record t { dropped = rows };
  are = λ db. refl;
  again = λ id row. refl;
  kept = λ db was. was.dropped;
  made = λ old new was f w made. written old new was 19 w (λ t. record t { dropped = f t.dropped })
      (record { register = refl; cluster = refl; suppliers = refl; nodes = refl; variants = refl; grants = refl; frames = refl; placements = refl; signals = refl; imports = refl; dropped = made; cluster2 = unlike _ (apart (layout_of old.now.trees).cluster2 19 was.behind.0.0 (lit≤ tt)) refl });
}

-- the table of ANALYZE moves this one where it stands before it
abbrev pub place_behind : Option ℕ → ℕ
place_behind None = 11
place_behind (Some before) = 12

pub is_behind : (tree : ℕ) (index before behind : Option ℕ) → slice_get (tables_at (record { cluster2 = tree; index = index; before = before; behind = behind })) (place_behind before) ≡ Some (cluster2_at tree)
is_behind tree index None behind = refl
is_behind tree index (Some before) behind = refl

abbrev pub cluster2_table : TableOf of_cluster2 cluster2_in
cluster2_table = record {
  table = λ l. cluster2_at l.cluster2;
  at = λ l. place_behind l.before;
  place = λ l. is_behind l.cluster2 l.index l.before l.behind;
  uncounted = λ l. refl;
  rows = λ t. t.cluster2;
  put = λ rows t. record t { cluster2 = rows };
  are = λ db. refl;
  again = λ id row. refl;
  kept = λ db was. was.cluster2;
  made = λ old new was f w made. written old new was (layout_of old.now.trees).cluster2 w (λ t. record t { cluster2 = f t.cluster2 })
      (record { register = unlike _ (apart_back (layout_of old.now.trees).cluster2 0 was.behind.0.0 (lit≤ tt)) refl; cluster = unlike _ (apart_back (layout_of old.now.trees).cluster2 1 was.behind.0.0 (lit≤ tt)) refl; suppliers = unlike _ (apart_back (layout_of old.now.trees).cluster2 2 was.behind.0.0 (lit≤ tt)) refl; nodes = unlike _ (apart_back (layout_of old.now.trees).cluster2 5 was.behind.0.0 (lit≤ tt)) refl; variants = unlike _ (apart_back (layout_of old.now.trees).cluster2 7 was.behind.0.0 (lit≤ tt)) refl; grants = unlike _ (apart_back (layout_of old.now.trees).cluster2 9 was.behind.0.0 (lit≤ tt)) refl; frames = unlike _ (apart_back (layout_of old.now.trees).cluster2 11 was.behind.0.0 (lit≤ tt)) refl; placements = unlike _ (apart_back (layout_of old.now.trees).cluster2 13 was.behind.0.0 (lit≤ tt)) refl; signals = unlike _ (apart_back (layout_of old.now.trees).cluster2 15 was.behind.0.0 (lit≤ tt)) refl; imports = unlike _ (apart_back (layout_of old.now.trees).cluster2 17 was.behind.0.0 (lit≤ tt)) refl; dropped = unlike _ (apart_back (layout_of old.now.trees).cluster2 19 was.behind.0.0 (lit≤ tt)) refl; cluster2 = alike _ (itself (layout_of old.now.trees).cluster2) made });
}
