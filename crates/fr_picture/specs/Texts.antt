-- Fixed texts: those that are always the same, and why a name stands as it is.
--
-- A name stands in a page as it is. It has letters, digits and underscores alone (`Names.antt` of `fr_base`), so no character of a name
-- means anything in HTML.
use Rattle.std.specs.Prelude.{◌≡◌, ◌++◌, ℕ, List, String, codes}
use Rattle.std.specs.List.{flat_map}
use Rattle.std.specs.String.{string_bytes}
use Rattle.fr_picture.specs.declared.texts.Fixed.{Fixed}
use Rattle.fr_picture.specs.declared.texts.Fixed.TheVariants.{NoParent, Never, StripStart, StripEnd, NoStrip, PathStart, CyclesStart, TitleEnd, PathEnd, LinkStart, OddShade, TagEnd, LinkEnd, TextEnd, Patterns, OverStart, LaneStart, KeyStart, FreeStart, Free, GapOfNobody, GapOfOthers, LaneEnd, GroupEnd, LegendStart, LegendEnd, LegendEndOfOne, OverviewStart, OverviewEnd, ShapesStart, NumbersStart, BandA, BandB, BandsAB, SlotRow, Comma, SlotTableEnd, ChangeStyle, IndexStart, PageEnd}

-- the text was appended to what stood there
abbrev pub Appends : {Z : Type 0} → String Z → String Z → List ℕ → Type 0
Appends old new text = string_bytes new ≡ string_bytes old ++ text

-- the texts, one after another
abbrev pub together : List (List ℕ) → List ℕ
together texts = flat_map (λ text. text) texts

-- the texts that are always the same
unfoldable pub fixed_text : Fixed → List ℕ
fixed_text NoParent = codes "It has no parent,"
fixed_text Never = codes "<td>never"
fixed_text StripStart = codes "<td><svg role=none><path d="
fixed_text StripEnd = codes " /></svg>"
fixed_text NoStrip = codes "<td>"
fixed_text PathStart = codes "<path d=\""
fixed_text CyclesStart = codes " cycles"
fixed_text TitleEnd = codes "</title>"
fixed_text PathEnd = codes "\"/>"
fixed_text LinkStart = codes "<a"
fixed_text OddShade = codes " class=o"
fixed_text TagEnd = codes ">"
fixed_text LinkEnd = codes "</a>"
fixed_text TextEnd = codes "</text>"
fixed_text Patterns = codes "<pattern id=t1 width=.5 height=.5 patternUnits=userSpaceOnUse><circle cx=.25 cy=.25 r=.13 /></pattern>\n<pattern id=t2 width=.5 height=.5 patternUnits=userSpaceOnUse><path d=\"M.2 0v1\"/><path class=k d=\"M.35 0v1\"/></pattern>\n<pattern id=t3 width=.5 height=.5 patternUnits=userSpaceOnUse><path d=\"M0 .2h1\"/><path class=k d=\"M0 .35h1\"/></pattern>\n<pattern id=t4 width=1 height=.5 patternUnits=userSpaceOnUse><path d=\"M.2 0v1M0 .2h1\"/><path class=k d=\"M.35 0v1M0 .35h1\"/></pattern>\n<pattern id=t5 width=.7 height=.7 patternUnits=userSpaceOnUse patternTransform=rotate(45)><path d=\"M.2 0v1\"/><path class=k d=\"M.35 0v1\"/></pattern>\n<pattern id=t6 width=.7 height=.7 patternUnits=userSpaceOnUse patternTransform=rotate(-45)><path d=\"M.2 0v1\"/><path class=k d=\"M.35 0v1\"/></pattern>\n<pattern id=t7 width=.9 height=.9 patternUnits=userSpaceOnUse patternTransform=rotate(45)><path d=\"M.2 0v1M0 .2h1\"/><path class=k d=\"M.35 0v1M0 .35h1\"/></pattern>\n"
fixed_text OverStart = codes "\"/><path class=h d=\""
fixed_text LaneStart = codes "<svg class="
fixed_text KeyStart = codes "<li><i class="
fixed_text FreeStart = codes "<path id=free d=\""
fixed_text Free = codes "<use href=#free />"
fixed_text GapOfNobody = codes "<use href=#gap /><text class=n y=0>nobody holds "
fixed_text GapOfOthers = codes "<use href=#gap /><text class=n y=0>not yours "
fixed_text LaneEnd = codes "</svg>\n"
fixed_text GroupEnd = codes "\"/></g>\n"
fixed_text LegendStart = codes "<h2>Suppliers</h2>\n<ul>\n"
fixed_text LegendEnd = codes "</ul>\n<p>Cycles go down, slots go across. A lane is a slot on a channel. Above and below it stands the letter of the supplier that holds it. Nobody holds a crossed lane, nor the slots of a grey strip. A frame that begins in an odd cycle has the other shade of its supplier's colour. A hatched cell is granted, and nothing is sent in it. A rectangle leads to its frame's row in the table below, whose number stands in the first of a lane, and a placement there leads back. Hover over a rectangle to see its frame, its node and supplier, its slot and channel, and its cycles; 1/4 is base 1 and repetition 4. The tables below say the same.</p>\n"
fixed_text LegendEndOfOne = codes "</ul>\n<p>Cycles go down, slots go across. A lane is a slot on a channel. Above and below it stands the letter of the supplier that holds it. A crossed lane and the slots of a grey strip are another supplier's or nobody's. A frame that begins in an odd cycle has the other shade of its supplier's colour. A hatched cell is granted, and nothing is sent in it. A rectangle leads to its frame's row in the table below, whose number stands in the first of a lane, and a placement there leads back. Hover over a rectangle to see its frame, its node and supplier, its slot and channel, and its cycles; 1/4 is base 1 and repetition 4. The tables below say the same.</p>\n"
fixed_text OverviewStart = codes "<h2>Overview</h2>\n<p>Each part leads to its drawing. Below it stands the first of its slots.</p>\n<nav>\n"
fixed_text OverviewEnd = codes "</nav>\n"
fixed_text ShapesStart = codes "<div class=defs><svg aria-hidden=true><g><defs>\n"
fixed_text NumbersStart = codes "<g id=numbers>"
fixed_text BandA = codes "</g><g id=cycles><use href=#numbers /><text class=band x=4 y=-3.6>channel A</text></g></defs>\n"
fixed_text BandB = codes "</g><g id=cycles><use href=#numbers /><text class=band x=4 y=-3.6>channel B</text></g></defs>\n"
fixed_text BandsAB = codes "</g><g id=cycles><use href=#numbers /><use href=#numbers x=68 /><text class=band x=4 y=-3.6>channel A</text><text class=band x=72 y=-3.6>channel B</text></g></defs>\n"
fixed_text SlotRow = codes "<tr><td>"
fixed_text Comma = codes ","
fixed_text SlotTableEnd = codes "</table>\n"
fixed_text ChangeStyle = codes ".new,.gone{fill:none;--p:none}\n.new{--edge:#060;--line:.3px}\n.gone{--edge:#a00;--line:.2px;stroke-dasharray:.5px .3px}\n.sign{text-anchor:end;font-weight:bold;transform:translate(-.15px,.1px);paint-order:stroke;stroke:#fff;stroke-width:.2px;stroke-dasharray:none}\n"
fixed_text IndexStart = codes "<h2>Frames</h2>\n<p>By name, each with its supplier's letter and its number in the table below:</p>\n<ul class=index>\n"
fixed_text PageEnd = codes "</table>\n</html>\n"
