-- How nodes are written.
use Rattle.std.specs.Prelude.{List}
use Rattle.smt_bits.specs.Width.{bits_in}
use Rattle.law_lines.specs.Lines.{AsApplication, AsEqualsIntMin, AsFalse}
use Rattle.smt_spelling.specs.NodeEntries.{NodeRendering, AsCall, Rendered}
use Rattle.smt_nodes.specs.declared.id.NodeId.{NodeId}
use Rattle.smt_spelling.specs.declared.rendering.Rendering.{Rendering}
use Rattle.smt_spelling.specs.declared.rendering.Rendering.TheVariants.{False, Application, Call, EqualsIntMin}
use Rattle.smt_spelling.specs.declared.rendering.WrittenParts.{WrittenParts}
use Rattle.smt_spelling.specs.declared.rendering.WrittenParts.TheVariants.{Given, Ordered}

-- a rendering of the program as the stated lines have it
abbrev pub plain_rendering : Rendering → NodeRendering
plain_rendering Application = Rendered AsApplication
plain_rendering Call = AsCall
plain_rendering (EqualsIntMin width) = Rendered (AsEqualsIntMin (bits_in width))
plain_rendering False = Rendered AsFalse

-- the numbers of the parts that are written before a node
abbrev pub written_ids : WrittenParts → List NodeId
written_ids (Given parts) = parts.now
written_ids (Ordered parts) = parts.items
