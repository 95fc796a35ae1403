-- Lemmas on what the bytes of a cluster file say.
use Rattle.std.proofs.Common.{◌≡◌, Less, nat_lt, not, ℕ, ◌≤◌, length, arith, List, [], ◌∷◌, ◌++◌, Bool, true, false, ◌&&◌, ◌||◌, Option, Some, None, option_map, Result, Ok, Err, MatchResult, Bor, sym, ◌∙◌, append_assoc, append-nil, map, string_bytes, IsUtf8, if◌then◌else◌, refl, ap}
use Rattle.std.specs.Prelude.{⊤}
use Rattle.std.specs.List.{list_all, list_any}
use Rattle.std.specs.Map.{keys_of as map_keys}
use Rattle.std.specs.Str.{is_utf8}
use Rattle.std.proofs.lemmas.Str.{is_utf8-from_IsUtf8, IsUtf8-from_is_utf8}
use Rattle.std.specs.List.Sorted.{IsStrictlySortedBy}
use Rattle.std.specs.String.{string_cmp}
use Rattle.std.specs.Ordering.{nat_cmp}
use Rattle.std.specs.Cmp.Lexicographic.{slice_cmp}
use Rattle.std.specs.Option.{ok_or}
use Rattle.toml.specs.declared.value.Value.{Value}
use Rattle.fr_text.specs.declared.cluster_file.ConfigFault.{ConfigFault}
use Rattle.fr_text.specs.declared.cluster_file.ConfigFault.TheVariants.{BadField, BadName, BadKey, KeyTwice}
use Rattle.toml.specs.Data.{Data, Members, member, no_members, as_str, get_member}
use Rattle.toml.specs.View.{view, members_view}
use Rattle.toml.specs.Parse.{parse_document}
use Rattle.std.proofs.lemmas.List.{length-map}
use Rattle.toml.proofs.Views.{Entry}
use Rattle.fr_base.specs.Cluster.{ClusterFile, names_rise, is_cluster, keys_of, keys_differ}
use Rattle.fr_base.specs.Names.{is_name, is_key}
use Rattle.fr_base.specs.Parameters.{check_params}
use Rattle.fr_base.specs.declared.params.RawParams.{RawParams}
use Rattle.fr_base.specs.Refusing.{◌>>=◌, ◌>>◌, ◌or◌, refuse◌when◌}
use Rattle.fr_base.specs.declared.config.Supplier.{Supplier}
use Rattle.fr_text.specs.declared.cluster_file.SupplierText.{SupplierText}
use Rattle.fr_text.specs.SupplierTexts.{supplier_of, suppliers_of}
use Rattle.std.proofs.lemmas.List.Folds.{list_all-map}
use Rattle.std.proofs.lemmas.Bool.Decides.{nat_tests}
use Rattle.fr_text.specs.ClusterFile.{is_file_key, has_only_file_keys, text_at, number_at, number_or, table_at, params_in, suppliers_in, fields_in, check_cluster, document, config_of}

unfoldable pub text_at_open : ⊤
unfolding ◌or◌ text_at
text_at_open = tt

unfoldable pub number_at_open : ⊤
unfolding ◌or◌ number_at
number_at_open = tt

unfoldable pub table_at_open : ⊤
unfolding ◌or◌ table_at
table_at_open = tt

unfoldable pub params_in_open : ⊤
unfolding ◌>>=◌ ◌>>◌ ◌or◌ params_in
params_in_open = tt

unfoldable pub fields_in_open : ⊤
unfolding ◌>>=◌ ◌>>◌ ◌or◌ refuse◌when◌ fields_in
fields_in_open = tt

unfoldable pub check_cluster_open : ⊤
unfolding ◌>>=◌ ◌>>◌ ◌or◌ refuse◌when◌ check_cluster is_cluster
check_cluster_open = tt

unfoldable pub config_of_open : ⊤
unfolding ◌>>=◌ ◌or◌ config_of
config_of_open = tt

-- bytes that are UTF-8 are read, and others are no document
pub document-utf8 : (bytes : List ℕ) → IsUtf8 bytes → document bytes ≡ parse_document bytes
unfolding document
document-utf8 bytes utf8 = simp (is_utf8-from_IsUtf8 bytes utf8)

pub document-refused : (bytes : List ℕ) → (IsUtf8 bytes → parse_document bytes ≡ None) → document bytes ≡ None
unfolding document
document-refused bytes refused = refused_if (is_utf8 bytes) refl where
  refused_if : (b : Bool) → is_utf8 bytes ≡ b → (if b then parse_document bytes else None) ≡ None
  refused_if true utf8 = refused (IsUtf8-from_is_utf8 bytes utf8)
  refused_if false other = refl

-- the keys of a table, seen as those of its members
pub has_only_file_keys-view : (es : List Entry) → has_only_file_keys (members_view es) ≡ list_all (λ k. is_file_key (string_bytes k)) (map_keys es)
unfolding has_only_file_keys
has_only_file_keys-view [] = refl
has_only_file_keys-view (e ∷ es) = ap (λ b. is_file_key (string_bytes e.0) && b) (has_only_file_keys-view es)

pub ruleset documents = (document-utf8, document-refused)

-- what a look-up found, as a result
pub found_or : (found : Option (Bor Value)) (r : Result (Bor Value) ConfigFault) (value : Option Data) → option_map (λ x. view x.now) found ≡ value → r ≡ ok_or found BadField
    → MatchResult r (λ x. value ≡ Some (view x.now)) (λ fault. (fault ≡ BadField) × (value ≡ None))
found_or None r value same is = rw is (refl, sym same)
found_or (Some x) r value same is = rw is (sym same)

-- the number at a key that is not there, and at one that is
pub number_or-none : (other : ℕ) (key : List ℕ) (file : Members) → get_member key file ≡ None → (let given : Result ℕ ConfigFault = Ok other in given ≡ number_or other key file)
unfolding number_or
number_or-none other key file e = rw e refl

pub number_or-some : (other : ℕ) (key : List ℕ) (file : Members) (d : Data) → get_member key file ≡ Some d → number_at key file ≡ number_or other key file
unfolding number_or
number_or-some other key file d e = rw e refl

-- these suppliers in front of the others, if there is no fault
abbrev pub prefixed : List Supplier → Result (List Supplier) ConfigFault → Result (List Supplier) ConfigFault
prefixed front (Ok rest) = Ok (front ++ rest)
prefixed front (Err fault) = Err fault

-- the names in a table's entries
abbrev pub names_of : List Entry → List (List ℕ)
names_of es = map (λ e. string_bytes e.0) es

-- one more supplier is read
pub prefixed-push : (front : List Supplier) (name key : List ℕ) (d : Data) (rest : Members) → as_str d ≡ Some key
    → prefixed (front ++ record { name = name; key = key } ∷ []) (suppliers_in rest) ≡ prefixed front (suppliers_in (member name d rest))
unfolding ◌>>=◌ ◌or◌ suppliers_in
prefixed-push front name key d rest is = rw is (moved (suppliers_in rest)) where
  moved : (r : Result (List Supplier) ConfigFault) → prefixed (front ++ record { name = name; key = key } ∷ []) r ≡ prefixed front (r >>= (λ more. Ok (record { name = name; key = key } ∷ more)))
  moved (Ok more) = ap Ok (append_assoc front (record { name = name; key = key } ∷ []) more)
  moved (Err fault) = refl

-- a supplier's key that is no text is a fault
pub suppliers_in-refused : (front : List Supplier) (name : List ℕ) (d : Data) (rest : Members) → as_str d ≡ None
    → prefixed front (suppliers_in (member name d rest)) ≡ Err BadField
unfolding ◌>>=◌ ◌or◌ suppliers_in
suppliers_in-refused front name d rest is = rw is

pub suppliers_in-done : (front : List Supplier) → prefixed front (suppliers_in no_members) ≡ Ok front
unfolding suppliers_in
suppliers_in-done front = ap Ok (append-nil front)

-- the suppliers of a table whose names ascend rise by their names
pub names_rise-sorted : (es : List Entry) (suppliers : List Supplier) → IsStrictlySortedBy string_cmp (map_keys es) → names_of es ≡ map (λ s. s.name) suppliers → names_rise suppliers ≡ true
unfolding IsStrictlySortedBy
names_rise-sorted [] [] sorted same = refl
names_rise-sorted [] (s ∷ suppliers) sorted same = cc
names_rise-sorted (e ∷ es) [] sorted same = cc
names_rise-sorted (e ∷ []) (s ∷ []) sorted same = refl
names_rise-sorted (e ∷ []) (s ∷ t ∷ suppliers) sorted same = cc
names_rise-sorted (e ∷ f ∷ es) (s ∷ []) sorted same = cc
names_rise-sorted (e ∷ f ∷ es) (s ∷ t ∷ suppliers) sorted same =
    let first : string_bytes e.0 ≡ s.name = cc in
    let second : string_bytes f.0 ≡ t.name = cc in
    let rest : names_of (f ∷ es) ≡ map (λ s. s.name) (t ∷ suppliers) = cc in
    let below : slice_cmp nat_cmp s.name t.name ≡ Less = rw (← first, ← second) sorted.0.0 in
    rw (below, names_rise-sorted (f ∷ es) (t ∷ suppliers) sorted.1 rest)

-- the keys of a table, and those of suppliers
pub ruleset table_keys = (has_only_file_keys-view)

-- an element is seen as a value that passes exactly where one of the seen values passes
pub any-seen : {X : Type 0} (passes : List ℕ → Bool) (see : X → List ℕ) (xs : List X) → list_any (λ x. passes (see x)) xs ≡ list_any passes (map see xs)
any-seen passes see [] = refl
any-seen passes see (x ∷ xs) = ap (λ b. passes (see x) || b) (any-seen passes see xs)

-- the cluster file that the texts describe
abbrev pub file : RawParams → List ℕ → List SupplierText → ClusterFile
file params integrator texts = record { cluster = record { params = params; integrator = integrator }; suppliers = suppliers_of texts }

-- the last three tests, of names, keys, and keys that differ
abbrev pub judged : Bool → Bool → Bool → ClusterFile → Result ClusterFile ConfigFault
judged false keys differ f = Err BadName
judged true false differ f = Err BadKey
judged true true false f = Err KeyTwice
judged true true true f = Ok f

pub check_cluster-judged : (params same : RawParams) (integrator : List ℕ) (texts : List SupplierText) → check_params params ≡ Ok same → length texts ≤ 64
    → check_cluster (file params integrator texts)
    ≡ judged (list_all (λ t. is_name t.name.now) texts) (is_key integrator && list_all (λ t. is_key t.key.now) texts) (keys_differ (keys_of integrator (suppliers_of texts))) (file params integrator texts)
unfolding ◌>>◌ refuse◌when◌ check_cluster
check_cluster-judged params same integrator texts checked few =
    let within : nat_lt 64 (length (suppliers_of texts)) ≡ false = rw length-map (grind (arith, nat_tests)) in
    let names : list_all (λ s. is_name s.name) (suppliers_of texts) ≡ list_all (λ t. is_name t.name.now) texts = list_all-map (λ s. is_name s.name) supplier_of texts in
    let keys : list_all is_key (map (λ s. s.key) (suppliers_of texts)) ≡ list_all (λ t. is_key t.key.now) texts = list_all-map is_key (λ s. s.key) (suppliers_of texts) ∙ list_all-map (λ s. is_key s.key) supplier_of texts in
    rw (checked, within, names, keys)
    (tests (list_all (λ t. is_name t.name.now) texts) (is_key integrator && list_all (λ t. is_key t.key.now) texts) (keys_differ (keys_of integrator (suppliers_of texts)))) where
      tests : (names keys differ : Bool)
          → ((refuse BadName when (not names)) >> ((refuse BadKey when (not keys)) >> ((refuse KeyTwice when (not differ)) >> Ok (file params integrator texts)))) ≡ judged names keys differ (file params integrator texts)
      tests false keys differ = refl
      tests true false differ = refl
      tests true true false = refl
      tests true true true = refl

-- the same, at what a value is seen as
pub check_cluster-seen : (f : ClusterFile) (params same : RawParams) (integrator : List ℕ) (items texts : List SupplierText) → file params integrator items ≡ f → texts ≡ items → Ok same ≡ check_params params → length texts ≤ 64
    → check_cluster f ≡ judged (list_all (λ t. is_name t.name.now) texts) (is_key integrator && list_all (λ t. is_key t.key.now) texts) (keys_differ (keys_of integrator (suppliers_of texts))) f
check_cluster-seen f params same integrator items texts seen read checked few =
    let at : file params integrator texts ≡ f = ap (file params integrator) read ∙ seen in
    rw at at (check_cluster-judged params same integrator texts (sym checked) few)

-- checked parameters are those that were given
pub check_params-same : (params checked : RawParams) → check_params params ≡ Ok checked → checked ≡ params
unfolding check_params ◌>>◌ refuse◌when◌
check_params-same params checked is = grind arith

-- what a text that was read says of the test
pub read-some : (b : Bool) (x y : List ℕ) → Some y ≡ (if b then Some x else None) → (b ≡ true) × (y ≡ x)
read-some true x y is = (refl, cc)
read-some false x y is = cc

pub read-none : (b : Bool) (x : List ℕ) → None ≡ (if b then Some x else None) → b ≡ false
read-none true x is = cc
read-none false x is = refl
