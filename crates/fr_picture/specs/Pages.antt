-- Page: the text is that of the variant and the cluster's figures, the legend, an overview, a drawing of exactly its grants
-- and cells, with its changes, the table of slots, that of changes, and the index and the table of frames.
use Rattle.std.specs.Prelude.{◌≡◌, ℕ, ◌+◌, ◌*◌, Bool, List, [], ◌∷◌, ◌++◌, map, codes, decimal, Option, Some, None, if◌then◌else◌}
use Rattle.std.specs.List.{flat_map, range_with_len}
use Rattle.fr_base.specs.Channels.{text_of_channels}
use Rattle.fr_base.specs.declared.channel.Channels.{Channels}
use Rattle.fr_base.specs.declared.channel.Channels.TheVariants as channels
use Rattle.fr_base.specs.declared.name.Name.{Name}
use Rattle.fr_base.specs.declared.params.Params.{Params}
use Rattle.fr_base.specs.declared.params.RawParams.{RawParams}
use Rattle.fr_picture.specs.Lanes.{IsDrawing}
use Rattle.fr_picture.specs.declared.changes.SlotChanges.{SlotChanges}
use Rattle.fr_picture.specs.declared.drawing.columns.Scale.{Scale}
use Rattle.fr_picture.specs.declared.drawing.Drawing.{Drawing}
use Rattle.fr_picture.specs.declared.drawing.lane.Lane.{Lane}
use Rattle.fr_picture.specs.declared.frame_index.Entry.{Entry}
use Rattle.fr_picture.specs.declared.plan.Plan.{Plan}
use Rattle.fr_picture.specs.declared.shares.Share.{Share}
use Rattle.fr_picture.specs.declared.texts.Fixed.TheVariants as fixed
use Rattle.fr_picture.specs.Changes.{AreBySlot, rows_of}
use Rattle.fr_picture.specs.ChangeTables.{change_style, changes_table, since_text}
use Rattle.fr_picture.specs.FrameIndexes.{IsIndex, index_text}
use Rattle.fr_picture.specs.FrameTables.{frames_text}
use Rattle.fr_picture.specs.LaneTexts.{lanes_text}
use Rattle.fr_picture.specs.Overviews.{overview_text, starts_of}
use Rattle.fr_picture.specs.Sets.{shapes_text}
use Rattle.fr_picture.specs.Shares.{legend_text, share_of}
use Rattle.fr_picture.specs.SlotTables.{slot_table_text}
use Rattle.fr_picture.specs.Styles.{style_text}
use Rattle.fr_picture.specs.Texts.{together, fixed_text}

unfoldable pub head_text : Name → List ℕ
head_text variant =
    together (codes "<!DOCTYPE html>\n<html lang=en>\n<meta charset=utf-8>\n<meta name=viewport content=\"width=device-width,initial-scale=1\">\n<title>Plan of " ∷ variant ∷ codes "</title>\n<style>@page{@bottom-left{content:\"Variant "
    ∷ variant ∷ codes "\"}}" ∷ [])

unfoldable pub heading_text : Name → List ℕ
heading_text variant = together (codes "</style>\n<h1>Variant " ∷ variant ∷ codes "</h1>\n<p>" ∷ [])

unfoldable pub opened_text : Name → List ℕ
opened_text parent = together (codes "It was opened from " ∷ parent ∷ codes "," ∷ [])

unfoldable pub parent_text : Option Name → List ℕ
parent_text None = fixed_text fixed.NoParent
parent_text (Some parent) = opened_text parent

unfoldable pub state_text : Bool → List ℕ
state_text released = if released then codes " and is released." else codes " and is open."

unfoldable pub viewer_text : Option Name → List ℕ
viewer_text None = []
viewer_text (Some supplier) =
    together (codes " This page shows what is " ∷ supplier ∷ codes "'s alone." ∷ [])

unfoldable pub cycle_figures : List ℕ → RawParams → List ℕ
cycle_figures names p =
    together (codes "</p>\n<p>Channels " ∷ names ∷ codes "; " ∷ decimal p.cycles ∷ codes " cycles of " ∷ decimal p.macroticks_per_cycle
    ∷ codes " macroticks; payload length " ∷ decimal p.payload_words ∷ codes " two-byte words; " ∷ [])

unfoldable pub segment_figures : RawParams → List ℕ
segment_figures p =
    together (decimal p.static_slots ∷ codes " static slots of " ∷ decimal p.slot_macroticks ∷ codes " macroticks; in macroticks: dynamic segment " ∷ decimal p.dynamic_macroticks
    ∷ codes ", symbol window " ∷ decimal p.symbol_macroticks ∷ codes ", network idle time " ∷ decimal p.idle_macroticks ∷ codes ".</p>\n" ∷ [])

-- the cluster's figures
unfoldable pub cluster_text : Params → List ℕ
cluster_text p = cycle_figures (text_of_channels p.channels) p ++ segment_figures p

-- the variant's name, parent and state, the supplier whose rows the page shows, the cluster's figures, and what the marks of
-- changes mean
unfoldable pub figures_text : Plan → List ℕ
figures_text plan =
    heading_text plan.variant ++ parent_text plan.parent ++ state_text plan.released ++ viewer_text plan.supplier ++ cluster_text plan.params
    ++ since_text plan.changes

-- the style of the strips of payloads with so many bits
unfoldable pub strips_text : ℕ → List ℕ
strips_text bits = together (codes "td path{transform:scale(calc(400/" ∷ decimal bits ∷ codes "),1)}\n" ∷ [])

-- how high a part of the drawing is on paper, where it has this height: with 64 cycles it fills a sheet of A4 that lies on its side
unfoldable pub sheet_text : ℕ → List ℕ
sheet_text height = together (codes "@media print{.plan>svg{height:calc(" ∷ decimal height ∷ codes "*2.5mm)}}\n" ∷ [])

unfoldable pub top_text : Plan → List ℕ
top_text plan =
    head_text plan.variant ++ style_text ++ strips_text (16 * plan.params.payload_words) ++ sheet_text (plan.params.cycles + 5)
    ++ change_style plan.changes ++ figures_text plan

unfoldable pub cycle_text : ℕ → List ℕ
cycle_text n = together (codes "<text class=names x=3.6 y=" ∷ decimal n ∷ codes ">" ∷ decimal n ∷ codes "</text>" ∷ [])

-- the numbers of the cycles
unfoldable pub cycles_text : ℕ → List ℕ
cycles_text count = flat_map cycle_text (range_with_len 0 count)

-- the channels' names above their lanes
unfoldable pub bands_text : Channels → List ℕ
bands_text channels.A = fixed_text fixed.BandA
bands_text channels.B = fixed_text fixed.BandB
bands_text channels.AB = fixed_text fixed.BandsAB

-- what a gap and a crossed lane mean: nobody holds them, or, on the page of one supplier, that
-- supplier does not
unfoldable pub legend_end : Option Name → List ℕ
legend_end None = fixed_text fixed.LegendEnd
legend_end (Some supplier) = fixed_text fixed.LegendEndOfOne

unfoldable pub suppliers_text : Plan → List Share → List ℕ
suppliers_text plan shares = fixed_text fixed.LegendStart ++ legend_text shares ++ legend_end plan.supplier

unfoldable pub drawing_text : Plan → Scale → List Entry → List SlotChanges → List Lane → List ℕ
drawing_text plan scale index slots lanes =
    fixed_text fixed.ShapesStart ++ shapes_text scale ++ fixed_text fixed.NumbersStart ++ cycles_text scale.cycles ++ bands_text plan.params.channels
    ++ lanes_text plan scale index slots lanes

-- the end of the index, and the head of the table of frames, which each printed page repeats
unfoldable pub frames_head : Name → List ℕ
frames_head variant =
    together (codes "</ul>\n<p>Frames that are never sent come first, then those with the largest gap. A placement has its slot, its channels, and its base and repetition. A gap is in macroticks. A payload has its bits from 0 on, from left to right. A signal has the bit at which it starts, and its length in bits; big order is said.</p>\n<table class=frames>\n<thead><tr><th colspan=7>Variant "
    ∷ variant ∷ codes ": frames<tr><th>number<th>frame<th>node<th>supplier<th>placements<th>greatest gap<th>payload and signals<tbody>\n" ∷ [])

unfoldable pub frame_parts : Plan → List Entry → List ℕ
frame_parts plan index =
    fixed_text fixed.IndexStart ++ index_text plan.suppliers.items index ++ frames_head plan.variant ++ frames_text plan.frames.items ++ fixed_text fixed.PageEnd

unfoldable pub page_text : Plan → Drawing → List Entry → List SlotChanges → List Share → List ℕ
page_text plan d index slots shares =
    top_text plan ++ suppliers_text plan shares ++ overview_text d.scale.cycles (starts_of d.lanes.items) ++ drawing_text plan d.scale index slots d.lanes.items
    ++ slot_table_text plan d.scale.cycles d.lanes.items ++ changes_table plan.variant plan.changes ++ frame_parts plan index

-- how full the grants of the plan's suppliers are
abbrev pub shares_of : Plan → List Share
shares_of plan = map (share_of plan.suppliers.items plan.params.cycles plan.grants plan.cells) plan.suppliers.items

-- The page of a plan: the text of a drawing that has exactly its grants and its cells, of its changes by slots, of an index of its
-- frames, and of each of its suppliers, grants, changes and frames.
pub record IsPage (plan : Plan) (text : List ℕ) : Type 0 where
  pub drawing : Drawing
  pub drawn : IsDrawing plan.params plan.grants plan.cells (rows_of plan.changes) drawing
  pub index : List Entry
  pub indexed : IsIndex plan.frames.items index
  pub slots : List SlotChanges
  pub by_slot : AreBySlot (rows_of plan.changes) slots
  pub is : text ≡ page_text plan drawing index slots (shares_of plan)
