-- Cluster file: what its bytes say, the config or the first fault in order. Each fault's word.
use Rattle.std.specs.Prelude.{ℕ, ◌^◌, ℤ, pos, negsuc, Bool, true, not, ◌&&◌, List, [], ◌∷◌, length, codes, nat_lt, Option, Some, None, is_some, option_and_then, Result, Ok, Err, if◌then◌else◌}
use Rattle.std.specs.List.{list_all, list_any}
use Rattle.std.specs.Str.{is_utf8, bytes_eq}
use Rattle.toml.specs.Data.{Members, no_members, member, get_member, as_str, as_integer, as_table}
use Rattle.toml.specs.Parse.{parse_document}
use Rattle.fr_base.specs.Refusing.{◌>>=◌, ◌>>◌, ◌or◌, refuse◌when◌}
use Rattle.fr_base.specs.Channels.{channels_of_text}
use Rattle.fr_base.specs.Names.{is_name, is_key}
use Rattle.fr_base.specs.Parameters.{check_params, word_of}
use Rattle.fr_base.specs.Cluster.{ClusterFile, keys_of, keys_differ}
use Rattle.fr_base.specs.declared.params.RawParams.{RawParams}
use Rattle.fr_base.specs.declared.params.ParamFault.{ParamFault}
use Rattle.fr_base.specs.declared.config.Supplier.{Supplier}
use Rattle.fr_text.specs.declared.cluster_file.ConfigFault.{ConfigFault}
use Rattle.fr_text.specs.declared.cluster_file.ConfigFault.TheVariants.{BadToml, BadField, Params, Limit, BadName, BadKey, KeyTwice, NoMemory}

-- the keys of a cluster file, in the order in which they are read
abbrev pub file_keys : List (List ℕ)
file_keys =
    codes "channels" ∷ codes "static_slots" ∷ codes "slot_macroticks" ∷ codes "dynamic_macroticks" ∷ codes "symbol_macroticks"
    ∷ codes "idle_macroticks" ∷ codes "macroticks_per_cycle" ∷ codes "payload_words" ∷ codes "cycles" ∷ codes "integrator" ∷ codes "suppliers" ∷ []

-- whether the key is one that a cluster file has
abbrev pub is_file_key : List ℕ → Bool
is_file_key key = list_any (bytes_eq key) file_keys

-- whether the table has no keys but those of a cluster file
unfoldable pub has_only_file_keys : Members → Bool
has_only_file_keys no_members = true
has_only_file_keys (member key d rest) = is_file_key key && has_only_file_keys rest

-- the number, if 32 bits hold it
abbrev pub as_u32 : ℤ → Option ℕ
as_u32 (pos n) = if nat_lt n (2 ^ 32) then Some n else None
as_u32 (negsuc n) = None

-- the number at a key
unfoldable pub number_at : List ℕ → Members → Result ℕ ConfigFault
number_at key file = option_and_then as_u32 (option_and_then as_integer (get_member key file)) or BadField

-- the number at a key, or the first number where the key is absent
unfoldable pub number_or : ℕ → List ℕ → Members → Result ℕ ConfigFault
number_or other key file = if is_some (get_member key file) then number_at key file else Ok other

-- the text at a key
unfoldable pub text_at : List ℕ → Members → Result (List ℕ) ConfigFault
text_at key file = option_and_then as_str (get_member key file) or BadField

-- the table at a key
unfoldable pub table_at : List ℕ → Members → Result Members ConfigFault
table_at key file = option_and_then as_table (get_member key file) or BadField

-- the parameters as they stand in the file, not checked
unfoldable pub params_in : Members → Result RawParams ConfigFault
params_in file = do
  text ← text_at (codes "channels") file
  channels ← channels_of_text text or BadField
  static_slots ← number_at (codes "static_slots") file
  slot_macroticks ← number_at (codes "slot_macroticks") file
  dynamic_macroticks ← number_at (codes "dynamic_macroticks") file
  symbol_macroticks ← number_at (codes "symbol_macroticks") file
  idle_macroticks ← number_at (codes "idle_macroticks") file
  macroticks_per_cycle ← number_at (codes "macroticks_per_cycle") file
  payload_words ← number_at (codes "payload_words") file
  cycles ← number_or 64 (codes "cycles") file
  Ok (record {
    channels = channels;
    static_slots = static_slots;
    slot_macroticks = slot_macroticks;
    dynamic_macroticks = dynamic_macroticks;
    symbol_macroticks = symbol_macroticks;
    idle_macroticks = idle_macroticks;
    macroticks_per_cycle = macroticks_per_cycle;
    payload_words = payload_words;
    cycles = cycles;
  })

-- the suppliers in the table's order, each a name and the text of its key
unfoldable pub suppliers_in : Members → Result (List Supplier) ConfigFault
suppliers_in no_members = Ok []
suppliers_in (member name d rest) = do
  key ← as_str d or BadField
  suppliers ← suppliers_in rest
  Ok (record { name = name; key = key } ∷ suppliers)

-- what the fields say, where all are there, each is of its kind, and no other is there
unfoldable pub fields_in : Members → Result ClusterFile ConfigFault
fields_in file = do
  refuse BadField when (not (has_only_file_keys file))
  params ← params_in file
  integrator ← text_at (codes "integrator") file
  table ← table_at (codes "suppliers") file
  suppliers ← suppliers_in table
  Ok (record { cluster = record { params = params; integrator = integrator }; suppliers = suppliers })

-- a fault of the parameters is a fault of the file
abbrev pub in_params : Result RawParams ParamFault → Result RawParams ConfigFault
in_params (Ok params) = Ok params
in_params (Err fault) = Err (Params fault)

-- what the file says, if its parameters, names and keys are in order
unfoldable pub check_cluster : ClusterFile → Result ClusterFile ConfigFault
check_cluster f = do
  in_params (check_params f.cluster.params)
  refuse Limit when (nat_lt 64 (length f.suppliers))
  refuse BadName when (not (list_all (λ s. is_name s.name) f.suppliers))
  refuse BadKey when (not (list_all is_key (keys_of f.cluster.integrator f.suppliers)))
  refuse KeyTwice when (not (keys_differ (keys_of f.cluster.integrator f.suppliers)))
  Ok f

-- the table of the TOML document that the bytes are
unfoldable pub document : List ℕ → Option Members
document bytes = if is_utf8 bytes then parse_document bytes else None

-- what the bytes of a cluster file say, or the first fault
unfoldable pub config_of : List ℕ → Result ClusterFile ConfigFault
config_of bytes = do
  table ← document bytes or BadToml
  file ← fields_in table
  check_cluster file

-- the fault's word
abbrev pub config_fault_word : ConfigFault → List ℕ
config_fault_word BadToml = codes "BadToml"
config_fault_word BadField = codes "BadField"
config_fault_word (Params fault) = word_of fault
config_fault_word Limit = codes "Limit"
config_fault_word BadName = codes "BadName"
config_fault_word BadKey = codes "BadKey"
config_fault_word KeyTwice = codes "KeyTwice"
config_fault_word NoMemory = codes "NoMemory"
