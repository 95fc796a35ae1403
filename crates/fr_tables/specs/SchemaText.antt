-- Text of the schema: the statement that makes each table, and the one that makes the index.
-- `cluster2` is made last, behind the index.
use Rattle.std.specs.Prelude.{ℕ, List, codes}

abbrev pub register_text : List ℕ
register_text = codes "CREATE TABLE register (id INTEGER NOT NULL PRIMARY KEY CHECK (id = 1), schema INTEGER NOT NULL) STRICT"

abbrev pub cluster_text : List ℕ
cluster_text = codes "CREATE TABLE cluster (id INTEGER NOT NULL PRIMARY KEY CHECK (id = 1), static_slots INTEGER NOT NULL, slot_macroticks INTEGER NOT NULL, dynamic_macroticks INTEGER NOT NULL, symbol_macroticks INTEGER NOT NULL, idle_macroticks INTEGER NOT NULL, macroticks_per_cycle INTEGER NOT NULL, payload_words INTEGER NOT NULL, channels TEXT NOT NULL, integrator TEXT NOT NULL) STRICT"

abbrev pub suppliers_text : List ℕ
suppliers_text = codes "CREATE TABLE suppliers (name TEXT NOT NULL PRIMARY KEY, key TEXT NOT NULL UNIQUE) STRICT"

abbrev pub nodes_text : List ℕ
nodes_text = codes "CREATE TABLE nodes (supplier TEXT NOT NULL REFERENCES suppliers (name), name TEXT NOT NULL, PRIMARY KEY (supplier, name)) STRICT"

abbrev pub variants_text : List ℕ
variants_text = codes "CREATE TABLE variants (name TEXT NOT NULL PRIMARY KEY, parent TEXT, depth INTEGER NOT NULL CHECK (depth >= 1 AND depth <= 16), released INTEGER NOT NULL CHECK (released = 0 OR released = 1), overlay INTEGER NOT NULL CHECK (overlay = 0 OR overlay = 1)) STRICT"

abbrev pub grants_text : List ℕ
grants_text = codes "CREATE TABLE grants (variant TEXT NOT NULL, slot INTEGER NOT NULL, channel TEXT NOT NULL, supplier TEXT NOT NULL, node TEXT NOT NULL, PRIMARY KEY (variant, slot, channel), FOREIGN KEY (supplier, node) REFERENCES nodes (supplier, name)) STRICT"

abbrev pub frames_text : List ℕ
frames_text = codes "CREATE TABLE frames (variant TEXT NOT NULL, supplier TEXT NOT NULL, name TEXT NOT NULL, node TEXT NOT NULL, PRIMARY KEY (variant, supplier, name), FOREIGN KEY (supplier, node) REFERENCES nodes (supplier, name)) STRICT"

abbrev pub placements_text : List ℕ
placements_text = codes "CREATE TABLE placements (variant TEXT NOT NULL, supplier TEXT NOT NULL, frame TEXT NOT NULL, slot INTEGER NOT NULL, channels TEXT NOT NULL, base INTEGER NOT NULL, repetition INTEGER NOT NULL, PRIMARY KEY (variant, supplier, frame, slot, channels, base, repetition), FOREIGN KEY (variant, supplier, frame) REFERENCES frames (variant, supplier, name) ON DELETE CASCADE) STRICT"

abbrev pub signals_text : List ℕ
signals_text = codes "CREATE TABLE signals (variant TEXT NOT NULL, supplier TEXT NOT NULL, frame TEXT NOT NULL, name TEXT NOT NULL, start INTEGER NOT NULL, length INTEGER NOT NULL, big INTEGER NOT NULL CHECK (big = 0 OR big = 1), PRIMARY KEY (variant, supplier, frame, name), FOREIGN KEY (variant, supplier, frame) REFERENCES frames (variant, supplier, name) ON DELETE CASCADE) STRICT"

abbrev pub imports_text : List ℕ
imports_text = codes "CREATE TABLE imports (supplier TEXT NOT NULL, label TEXT NOT NULL, variant TEXT NOT NULL, body BLOB NOT NULL, rows INTEGER NOT NULL, PRIMARY KEY (supplier, label)) STRICT"

abbrev pub dropped_text : List ℕ
dropped_text = codes "CREATE TABLE dropped (variant TEXT NOT NULL, supplier TEXT NOT NULL, frame TEXT NOT NULL, PRIMARY KEY (variant, supplier, frame)) STRICT"

abbrev pub cluster2_text : List ℕ
cluster2_text = codes "CREATE TABLE cluster2 (id INTEGER NOT NULL PRIMARY KEY CHECK (id = 1), static_slots INTEGER NOT NULL, slot_macroticks INTEGER NOT NULL, dynamic_macroticks INTEGER NOT NULL, symbol_macroticks INTEGER NOT NULL, idle_macroticks INTEGER NOT NULL, macroticks_per_cycle INTEGER NOT NULL, payload_words INTEGER NOT NULL, channels TEXT NOT NULL, integrator TEXT NOT NULL, cycles INTEGER NOT NULL CHECK (cycles >= 8 AND cycles <= 64)) STRICT"

abbrev pub index_text : List ℕ
index_text = codes "CREATE INDEX grants_by_supplier ON grants (variant, supplier)"
