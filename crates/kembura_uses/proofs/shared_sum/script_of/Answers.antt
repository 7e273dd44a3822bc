use Rattle.std.proofs.Common.{◌≡◌, true, refl, [], ◌∷◌, Option, Some, ap, sym, ◌∙◌}
use Rattle.std.proofs.lemmas.Bool.{false≢true}
use Rattle.std.specs.Prelude.{option_and_then}
use Rattle.kembura.specs.Nodes.{Meaning, TermMeaning}
use Rattle.kembura.specs.Plain.{PlainTerm}
use Rattle.kembura.specs.Interned.{meaning_in}
use Rattle.kembura.specs.Kinds.{is_term_at}
use Rattle.kembura_uses.proofs.shared_sum.script_of.Goals as goal

a_term : (o : Option Meaning) → is_term_at o ≡ true → (t : PlainTerm) × (o ≡ Some (TermMeaning t))
a_term (Some (TermMeaning t)) h = (t, refl)
a_term o h = absurd (false≢true h)

pub encode_nodes-requires : goal.encode_nodes-requires
encode_nodes-requires g c =
    let (t, h) = a_term (meaning_in c.args.nodes c.args.id) (sym c.is_term.ensures ∙ c.if-not-is_term.false) in
    let there : meaning_in c.with_nodes-encoder.result.writer.names.nodes c.args.id ≡ Some (TermMeaning t) = ap (λ i. meaning_in i c.args.id) c.with_nodes-encoder.ensures.nodes ∙ h in
    record { stand = (t ∷ [], ap (option_and_then (λ m. Some (m ∷ []))) there) }
