use Rattle.std.proofs.Common.{◌≡◌, ap, ◌∙◌, sym, false}
use Rattle.std.specs.Prelude.{cond}
use Rattle.law_terms.specs.Meaning.{meaning, term_value}
use Rattle.law_terms.proofs.LiteralValues.{same}
use Rattle.law_terms.proofs.laws.literals_are_their_values.Goals as goal
use Rattle.law_terms.specs.Values.{BoolValue}

pub returns : goal.returns
returns c I t u ty a b h k f g e =
    let p : term_value I t ≡ meaning I t = ap (λ x. cond x (meaning I t) (BoolValue false)) h.parts in
    let q : term_value I u ≡ meaning I u = ap (λ x. cond x (meaning I u) (BoolValue false)) k.parts in
    same I t u (a, h.parts, f.literals) (b, k.parts, g.literals) (h.type ∙ sym k.type) (sym p ∙ (e ∙ q))
