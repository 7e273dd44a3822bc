use Rattle.std.proofs.Common.{◌≡◌, Option, Some, ap, sym, subst, ◌∙◌}
use Rattle.std.specs.Prelude.{IfSome, option_map}
use Rattle.smt_bits.specs.Width.{bits_in}
use Rattle.law_terms.specs.Types.{type_of}
use Rattle.law_terms.specs.Meanings.{all_found, meanings}
use Rattle.law_terms.specs.Nodes.{Meaning, TypeMeaning}
use Rattle.law_terms.specs.Parts.{parts_in}
use Rattle.smt_nodes.specs.Interned.{nodes_of}
use Rattle.smt_nodes.specs.View.{places_of}
use Rattle.smt_spelling.proofs.Rendered.{first_found, of_none, of_width}
use Rattle.smt_spelling.proofs.rendering.least_rendering.Goals as goal

pub returns-in-Some : goal.returns-in-Some
returns-in-Some c t meant =
    let ms = meanings (nodes_of c.args.nodes.now) in
    let P : Option Meaning → Type 0 = λ o. IfSome o (λ m. all_found ms (places_of c.parts-parts.result.now) ≡ Some (parts_in m)) in
    let first = first_found ms c.parts-parts.result.now _ (TypeMeaning (type_of t)) _ (subst P meant c.parts-parts.ensures.found) in
    of_width (type_of t) (bits_in c.in-Some.width) (sym (c.width_in.ensures (type_of t) first) ∙ ap (option_map bits_in) c.in-Some.is)

pub returns-in-None : goal.returns-in-None
returns-in-None c t meant =
    let ms = meanings (nodes_of c.args.nodes.now) in
    let P : Option Meaning → Type 0 = λ o. IfSome o (λ m. all_found ms (places_of c.parts-parts.result.now) ≡ Some (parts_in m)) in
    let first = first_found ms c.parts-parts.result.now _ (TypeMeaning (type_of t)) _ (subst P meant c.parts-parts.ensures.found) in
    of_none (type_of t) (sym (c.width_in.ensures (type_of t) first) ∙ ap (option_map bits_in) c.in-None.is)
