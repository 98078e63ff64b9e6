-- Every figure of the table agrees with the document: one claim, computed.
use mathlib.Core.Bool.{true}
use mathlib.Core.Path.{◌≡◌, refl}
use lib.Ieee.{of_bits, to_bits, add, sub, mul, div, neg, le, lt, ne}
use Rattle.numbers.specs.Every.{all_below}
use Rattle.numbers.specs.Overlay.{overlay}
use Rattle.numbers.specs.Words.{finite, abs}
use Rattle.root.specs.Root.{root}
use Rattle.convex.specs.ConvexMonotone2 as cm2
use Rattle.convex.specs.ConvexMonotone4 as cm4
use Rattle.quadratic.specs.QuadraticMin as quadmin
use Rattle.section.specs.Section as section
use Rattle.record.specs.Reading.{quadratic_from, other_from, joined, read_section}
use Rattle.record.specs.Slots.{quadratic_slots, convex_slots, slots_of, record_of}
use Rattle.record.specs.Tag.{quadratic_tag, convex_tag, tag_of}
use Rattle.table.specs.Check.{all_finite, rising}
use Rattle.table.specs.Table.{middle_at, first_node, last_node, node_at, total_at}
use Rattle.table.specs.Table as nodes
use Rattle.choice.specs.Choice.{first_region, mixed, shaped, section_of}
use Rattle.choice.specs.ConvexPart.{at_most, at_least, fourth, third, convex_part}
use Rattle.choice.specs.ConvexPart as part
use Rattle.choice.specs.QuadraticPart.{made, min_kind}
use Rattle.choice.specs.Regions.{flat, min_fits, in_first, in_second, in_third}
use Rattle.assembly.specs.Sections.{section_at, tail_of}
use Rattle.curve.specs.Build.{curve_of}
use Rattle.query.specs.Query.{walk, covering}
use Rattle.figures.specs.Figures.{same, table, agree}

pub figures : agree table ≡ true
unfolding of_bits to_bits add sub mul div neg le lt all_below overlay finite abs root cm2.value cm4.value quadmin.splits quadmin.in_period quadmin.split quadmin.new quadmin.careful quadmin.value section.value quadratic_from other_from joined read_section quadratic_slots convex_slots slots_of record_of quadratic_tag convex_tag tag_of all_finite rising middle_at first_node last_node node_at total_at nodes.second nodes.second_last first_region mixed shaped section_of at_most at_least fourth third convex_part part.second made min_kind flat min_fits in_first in_second in_third section_at tail_of curve_of walk covering same ne
figures = refl
