-- The rows of small import files, computed.
use Rattle.std.proofs.Common.{◌≡◌, ℕ, suc, ◌+◌, Bool, true, false, List, [], ◌∷◌, ◌++◌, length, get_or, map, replicate, Option, Some, None, Ok, Err, refl, sym, ap, ◌∙◌, add-one, arith, codes}
use Rattle.std.specs.Prelude.{⊤, drop, IfSome, if◌then◌else◌}
use Rattle.std.specs.Char.{encode_utf8}
use Rattle.std.specs.Str.{chars, is_utf8}
use Rattle.csv.proofs.OnLiterals.{csv_on_literals}
use Rattle.csv.specs.Machine.{Read, next_record, step, ends_at_end, is_end, fields_after, field_after}
use Rattle.csv.specs.Reading.{default_config, records_from, records_next}
use Rattle.csv.specs.Records.{field_at}
use Rattle.csv.specs.declared.parser.Action.{Action}
use Rattle.csv.specs.declared.parser.Action.TheVariants as act
use Rattle.csv.specs.declared.parser.State.{State}
use Rattle.csv.specs.declared.parser.State.TheVariants as st
use Rattle.fr_base.specs.Refusing.{◌>>=◌, ◌>>◌, ◌or◌, refuse◌when◌}
use Rattle.fr_base.specs.Names.{is_name}
use Rattle.fr_base.specs.Checks.{name, cycles, slot, channels, placement, signal}
use Rattle.fr_base.specs.ImportRows.{records_of, header_of, text_at, number, number_at, frame_row, placement_row, signal_row, frame_in, placement_in, signal_in, row_of, row_at, rows_from, rows_below, rows_of_records, up_to_refused, rows_of_body}
use Rattle.fr_base.specs.declared.channel.Channels.TheVariants as chs
use Rattle.fr_base.specs.declared.import.Header.{Header}
use Rattle.fr_base.specs.declared.import.Header.TheVariants.{Signals}
use Rattle.fr_base.specs.declared.import.Row.{Row}
use Rattle.fr_base.specs.declared.import.Row.TheVariants.{AddFrame, Place, AddSignal}
use Rattle.fr_base.specs.declared.import.RowRead.{RowRead}
use Rattle.fr_base.specs.declared.params.Params.{Params}
use Rattle.fr_base.specs.declared.refusal.Refusal.{Refusal}
use Rattle.fr_base.specs.declared.refusal.Refusal.TheVariants.{BadText, BadName, BadCycles, BadSlot, BadChannel, BadSignal, Limit}
use Rattle.fr_base.specs.declared.signal.Order.TheVariants as order

-- channel A alone, four slots of ten macroticks
unfoldable pub params : Params
params = record { channels = chs.A; static_slots = 4; slot_macroticks = 10; dynamic_macroticks = 40; symbol_macroticks = 10; idle_macroticks = 10; macroticks_per_cycle = 100; payload_words = 1; cycles = 64 }

-- the rows of a file with these bytes
unfoldable pub rows : List ℕ → List RowRead
unfolding params
rows body = rows_of_body params body

-- what the rows below unfold
unfoldable pub a_small_file : ⊤
unfolding csv_on_literals field_at is_utf8 chars encode_utf8 ◌>>=◌ ◌>>◌ ◌or◌ refuse◌when◌ is_name name cycles slot channels placement signal records_of header_of text_at number number_at frame_row placement_row signal_row frame_in placement_in signal_in row_of row_at rows_from rows_below rows_of_records up_to_refused rows_of_body params rows
a_small_file = tt

-- a row that was read, and one that is refused
abbrev pub read : ℕ → Row → RowRead
read line row = record { line = line; row = Ok row }

abbrev pub refused : ℕ → Refusal → RowRead
refused line why = record { line = line; row = Err why }

-- a frame of node `n1` in a slot of channel A
abbrev pub placed : List ℕ → ℕ → ℕ → ℕ → Row
placed frame number base repetition =
    Place frame (codes "n1") (record { slot = number; channels = chs.A; cycles = record { count = 64; base = base; repetition = repetition } })

-- a signal of frame `f1` in little order
abbrev pub little : List ℕ → ℕ → ℕ → Row
little signal start bits = AddSignal (codes "f1") (record { name = signal; start = start; length = bits; order = order.Little })

-- the byte order mark
abbrev pub mark : List ℕ
mark = 239 ∷ 187 ∷ 191 ∷ []

-- ---- whole files

pub three_rows : rows (codes "frame,node,slot,channels,base,repetition\nf1,n1,1,A,0,2\nf2,n1,1,A,1,4\nf3,n1,2,A,0,1\n")
    ≡ read 2 (placed (codes "f1") 1 0 2) ∷ read 3 (placed (codes "f2") 1 1 4) ∷ read 4 (placed (codes "f3") 2 0 1) ∷ []
unfolding a_small_file
three_rows = refl

-- rows of frames, of which none is sent
pub two_frames : rows (codes "frame,node\nf,n1\ng,n2\n")
    ≡ read 2 (AddFrame (codes "f") (codes "n1")) ∷ read 3 (AddFrame (codes "g") (codes "n2")) ∷ []
unfolding a_small_file
two_frames = refl

-- a byte order mark, quotes, and lines that end with CR and LF
pub marked_and_quoted : rows (mark ++ codes "frame,signal,start,length,order\r\n\"f1\",\"x\",0,8,little\r\n")
    ≡ read 2 (little (codes "x") 0 8) ∷ []
unfolding a_small_file
marked_and_quoted = refl

-- a header alone has no rows
pub header_alone : map rows (codes "frame,signal,start,length,order\n" ∷ codes "frame,node,slot,channels,base,repetition" ∷ codes "frame,node" ∷ [])
    ≡ [] ∷ [] ∷ [] ∷ []
unfolding a_small_file
header_alone = refl

-- what does not begin with a header: no bytes, empty lines, two marks, a mark behind a quote, a header of another case, with a field
-- less or more, with a space, in another order, or a row
pub no_header : map rows (
    []
    ∷ codes "\n\r\n"
    ∷ mark
    ∷ (mark ++ mark ++ codes "frame,signal,start,length,order\nf1,x,0,8,little\n")
    ∷ codes "Frame,signal,start,length,order\nf1,x,0,8,little\n"
    ∷ codes "frame,signal,start,length\n"
    ∷ codes "frame,signal,start,length,order,\n"
    ∷ codes "frame, signal,start,length,order\n"
    ∷ codes "frame, node\nf,n1\n"
    ∷ codes "node,frame\nn1,f\n"
    ∷ codes "f1,x,0,8,little\n"
    ∷ [])
    ≡ replicate 11 (refused 1 BadText ∷ [])
unfolding a_small_file
no_header = refl

-- LF, CR and CRLF end a line, empty lines are no rows, and the last line may lack its end
pub ends_of_lines : rows (codes "\n\nframe,signal,start,length,order\rf1,x,0,8,little\r\n\r\rf1,y,8,4,little\n\r\nf1,z,12,1,little")
    ≡ read 2 (little (codes "x") 0 8) ∷ read 3 (little (codes "y") 8 4) ∷ read 4 (little (codes "z") 12 1) ∷ []
unfolding a_small_file
ends_of_lines = refl

-- a quote that is not closed takes the rest of the file, and its record stands all the same
pub an_open_quote : rows (codes "frame,signal,start,length,order\nf1,x,0,8,\"little") ∷ rows (codes "frame,signal,start,length,order\nf1,x,0,8,\"little\nf1,y,8,8,little\n") ∷ []
    ≡ (read 2 (little (codes "x") 0 8) ∷ []) ∷ (refused 2 BadSignal ∷ []) ∷ []
unfolding a_small_file
an_open_quote = refl

-- the rows after the first refused one are not read
pub up_to_the_first_refused : rows (codes "frame,signal,start,length,order\nf1,x,0,8,little\nf1,y,8,8\nf1,z,0,8,little\nf1,1,0,8,little\n")
    ≡ read 2 (little (codes "x") 0 8) ∷ refused 3 BadText ∷ []
unfolding a_small_file
up_to_the_first_refused = refl

-- ---- single rows

-- the rows below a header of frames, of placements, and of signals
unfoldable pub below_frames : List ℕ → List RowRead
unfolding rows
below_frames text = rows (codes "frame,node\n" ++ text)

unfoldable pub below_placements : List ℕ → List RowRead
unfolding rows
below_placements text = rows (codes "frame,node,slot,channels,base,repetition\n" ++ text)

unfoldable pub below_signals : List ℕ → List RowRead
unfolding rows
below_signals text = rows (codes "frame,signal,start,length,order\n" ++ text)

-- numbers: ten digits are one where they fit into 32 bits, with leading zeros or without; eleven are none, nor is what has no
-- digit, a sign, a space, a point, or a digit that is not ASCII
pub numbers : map below_signals (
    codes "f1,x,0000000000,8,little"
    ∷ codes "f1,x,4294967295,0000000008,little"
    ∷ codes "f1,x,4294967296,8,little"
    ∷ codes "f1,x,00000000000,8,little"
    ∷ codes "f1,x,,8,little"
    ∷ codes "f1,x,+1,8,little"
    ∷ codes "f1,x,-1,8,little"
    ∷ codes "f1,x, 1,8,little"
    ∷ codes "f1,x,1.0,8,little"
    ∷ codes "f1,x,１,8,little"
    ∷ [])
    ≡ (read 2 (little (codes "x") 0 8) ∷ []) ∷ (read 2 (little (codes "x") 4294967295 8) ∷ []) ∷ replicate 8 (refused 2 BadText ∷ [])
unfolding a_small_file below_signals
numbers = refl

-- fields: one too few or too many, one that is no text, one with a quote in its middle
pub fields_and_quotes : map below_signals (
    codes "f1,x,0,8"
    ∷ codes "f1,x,0,8,little,"
    ∷ codes "\"\""
    ∷ (255 ∷ codes ",x,0,8,little")
    ∷ (codes "f1,x,0,8," ++ 255 ∷ [])
    ∷ codes "f1,x\"\",0,8,little"
    ∷ codes "f1,\"x\"\"\",0,8,little"
    ∷ codes "f1,\"\"x,0,8,little"
    ∷ [])
    ≡ replicate 5 (refused 2 BadText ∷ []) ++ replicate 2 (refused 2 BadName ∷ []) ++ (read 2 (little (codes "x") 0 8) ∷ []) ∷ []
unfolding a_small_file below_signals
fields_and_quotes = refl

-- rows of frames: two fields, each a text and a name
pub refusals_of_frames : map below_frames (
    codes "f"
    ∷ codes "f,n1,"
    ∷ (codes "1f," ++ 255 ∷ [])
    ∷ codes "1f,n1"
    ∷ codes "f,1n"
    ∷ codes "f, n1"
    ∷ codes "f,n1"
    ∷ [])
    ≡ map (λ why. refused 2 why ∷ []) (BadText ∷ BadText ∷ BadText ∷ BadName ∷ BadName ∷ BadName ∷ [])
    ++ (read 2 (AddFrame (codes "f") (codes "n1")) ∷ []) ∷ []
unfolding a_small_file below_frames
refusals_of_frames = refl

-- the order of refusals: by the text, the names, the cycles, the slot, the channels
pub refusals_of_placements : map below_placements (
    codes "1f,1n,0,B,2,x"
    ∷ codes "1f,1n,0,B,2,2"
    ∷ codes "f1,1n,0,B,2,2"
    ∷ codes "f1,n1,0,B,2,2"
    ∷ codes "f1,n1,0,B,1,2"
    ∷ codes "f1,n1,5,B,1,2"
    ∷ codes "f1,n1,4,B,1,2"
    ∷ codes "f1,n1,4,AB,1,2"
    ∷ codes "f1,n1,4,AA,1,2"
    ∷ codes "f1,n1,4,,1,2"
    ∷ codes "f1,n1,4,A,1,2"
    ∷ [])
    ≡ map (λ why. refused 2 why ∷ []) (
    BadText ∷ BadName ∷ BadName ∷ BadCycles ∷ BadSlot ∷ BadSlot ∷ BadChannel ∷ BadChannel ∷ BadChannel ∷ BadChannel ∷ [])
    ++ (read 2 (placed (codes "f1") 4 1 2) ∷ []) ∷ []
unfolding a_small_file below_placements
refusals_of_placements = refl

-- the same of signals: by the text, the names, the length and the order
pub refusals_of_signals : map below_signals (
    codes "1f,1x,0,65,middle,"
    ∷ codes "1f,x,0,0,middle"
    ∷ codes "f1,1x,0,0,middle"
    ∷ codes "f1,x,0,0,middle"
    ∷ codes "f1,x,0,8,middle"
    ∷ codes "f1,x,0,0,little"
    ∷ codes "f1,x,0,65,little"
    ∷ codes "f1,x,0,64,little"
    ∷ [])
    ≡ map (λ why. refused 2 why ∷ []) (BadText ∷ BadName ∷ BadName ∷ BadSignal ∷ BadSignal ∷ BadSignal ∷ BadSignal ∷ [])
    ++ (read 2 (little (codes "x") 0 64) ∷ []) ∷ []
unfolding a_small_file below_signals
refusals_of_signals = refl

-- ---- the limit of 512 rows

-- the fields of a row that is read, and of one that has no form
abbrev pub good : List (List ℕ)
good = codes "f1" ∷ codes "x" ∷ codes "0" ∷ codes "8" ∷ codes "little" ∷ []

abbrev pub bad : List (List ℕ)
bad = codes "f1" ∷ []

-- the 512th row stands at line 513 and is read; the 513th is refused as one too many, whatever it holds, and is the last
pub the_last_rows : map (λ records. up_to_refused (rows_from params Signals 513 records)) ((good ∷ []) ∷ (good ∷ good ∷ good ∷ []) ∷ (good ∷ bad ∷ good ∷ []) ∷ (bad ∷ bad ∷ []) ∷ [])
    ≡ (read 513 (little (codes "x") 0 8) ∷ [])
    ∷ (read 513 (little (codes "x") 0 8) ∷ refused 514 Limit ∷ [])
    ∷ (read 513 (little (codes "x") 0 8) ∷ refused 514 Limit ∷ [])
    ∷ (refused 513 BadText ∷ [])
    ∷ []
unfolding a_small_file
the_last_rows = refl

-- so many records further, a row stands so many lines further
pub lines_count_records : (p : Params) (h : Header) (before after : List (List (List ℕ))) (line : ℕ)
    → drop (length before) (rows_from p h line (before ++ after)) ≡ rows_from p h (line + length before) after
unfolding rows_from
lines_count_records p h [] after line = ap (λ at. rows_from p h at after) (omega arith)
lines_count_records p h (r ∷ before) after line =
    lines_count_records p h before after (suc line) ∙ ap (λ at. rows_from p h at after) (omega arith)

-- below a header, the record behind 512 others is refused as one too many
pub the_513th : (p : Params) (h : Header) (before : List (List (List ℕ))) (fields : List (List ℕ)) (after : List (List (List ℕ)))
    → length before ≡ 512 → drop 512 (rows_below p (Some h) (before ++ fields ∷ after)) ≡ refused 514 Limit ∷ rows_from p h 515 after
unfolding a_small_file
the_513th p h before fields after e =
    ap (λ n. drop n (rows_from p h 2 (before ++ fields ∷ after))) (sym e)
    ∙ lines_count_records p h before (fields ∷ after) 2
    ∙ ap (λ n. rows_from p h (2 + n) (fields ∷ after)) e

-- ---- two marks

-- the first byte of the first field, of fields and the field at hand
abbrev first_byte : List (List ℕ) → List ℕ → ℕ
first_byte fields field = get_or (get_or (fields ++ (field ∷ [])) 0 []) 0 0

copied : (fields : List (List ℕ)) (field : List ℕ) (c : ℕ) → first_byte fields field ≡ 239 → first_byte fields (field ++ (c ∷ [])) ≡ 239
copied [] [] c h = absurd (omega arith)
copied [] (b ∷ field) c h = h
copied (f ∷ fields) field c h = h

ended : (fields : List (List ℕ)) (field next : List ℕ) → first_byte fields field ≡ 239 → first_byte (fields ++ (field ∷ [])) next ≡ 239
ended [] field next h = h
ended (f ∷ fields) field next h = h

after : (a : Action) (c : ℕ) (fields : List (List ℕ)) (field : List ℕ) → first_byte fields field ≡ 239
    → first_byte (fields_after a fields field) (field_after a c field) ≡ 239
after act.Skip c fields field h = h
after act.Copy c fields field h = copied fields field c h
after act.EndField c fields field h = ended fields field [] h
after act.EndRecord c fields field h = ended fields field [] h

last : (a : Action) (fields : List (List ℕ)) (field : List ℕ) → first_byte fields field ≡ 239 → is_end a ≡ true
    → get_or (get_or (fields_after a fields field) 0 []) 0 0 ≡ 239
last act.Skip fields field h e = cc
last act.Copy fields field h e = cc
last act.EndField fields field h e = cc
last act.EndRecord fields field h e = h

-- a record that begins with the mark's first byte keeps it
kept : (s : State) (fields : List (List ℕ)) (field text : List ℕ) → first_byte fields field ≡ 239
    → IfSome (next_record default_config s fields field text) (λ q. get_or (get_or q.0 0 []) 0 0 ≡ 239)
unfolding next_record
kept s fields field [] h = by (ends_at_end s)
  where
    by : (b : Bool) → IfSome {T = Read} (if b then Some (fields ++ (field ∷ []), st.StartRecord, []) else None) (λ q. get_or (get_or q.0 0 []) 0 0 ≡ 239)
    by true = h
    by false = tt
kept s fields field (c ∷ text) h =
    by (is_end (step default_config s c).1) refl _
    (kept (step default_config s c).0 _ _ text (after (step default_config s c).1 c fields field h))
  where
    by : (b : Bool) → is_end (step default_config s c).1 ≡ b → (more : Option Read) → IfSome more (λ q. get_or (get_or q.0 0 []) 0 0 ≡ 239)
        → IfSome {T = Read} (if b then Some (fields_after (step default_config s c).1 fields field, (step default_config s c).0, text) else more) (λ q. get_or (get_or q.0 0 []) 0 0 ≡ 239)
    by true e more m = last (step default_config s c).1 fields field h e
    by false e more m = m

-- no header begins so
no_header_begins_so : (fields : List (List ℕ)) → get_or (get_or fields 0 []) 0 0 ≡ 239 → header_of fields ≡ None
unfolding header_of
no_header_begins_so [] h = refl
no_header_begins_so ([] ∷ fields) h = absurd (omega arith)
no_header_begins_so ((c ∷ field) ∷ fields) h = rw h refl

-- what begins with two marks has one row, refused, whatever follows
pub two_marks : (p : Params) (more : List ℕ) → rows_of_body p (mark ++ mark ++ more) ≡ refused 1 BadText ∷ []
unfolding rows_of_body rows_of_records rows_below up_to_refused records_of csv_on_literals
two_marks p more =
    rw add-one (by (next_record default_config st.InField [] (239 ∷ 187 ∷ 191 ∷ []) more) (kept st.InField [] (239 ∷ 187 ∷ 191 ∷ []) more refl))
  where
    by : (o : Option Read) → IfSome o (λ q. get_or (get_or q.0 0 []) 0 0 ≡ 239)
        → up_to_refused (rows_of_records p (records_next (records_from default_config (length (mark ++ more))) o)) ≡ refused 1 BadText ∷ []
    by None h = refl
    by (Some q) h = rw (no_header_begins_so q.0 h) refl
