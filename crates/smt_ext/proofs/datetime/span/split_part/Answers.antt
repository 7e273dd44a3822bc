use Rattle.std.proofs.Common.{ℕ, List, ◌++◌, ap, ◌∙◌, append_assoc}
use Rattle.std.proofs.lemmas.Bool.Decides.{Decides-eqb}
use Rattle.std.proofs.lemmas.Option.{MatchOption-at_some}
use Rattle.std.proofs.lemmas.Slice.Eq.{strip_suffix_is}
use Rattle.smt_ext.proofs.datetime.span.split_part.Goals as goal

pub returns-clause-found : goal.returns-clause-found
returns-clause-found c =
    let e = MatchOption-at_some _ _ c.in_ok-before.before c.in_ok-before.was (strip_suffix_is Decides-eqb c.args.text.now c.name.result.now c.strip_suffix.result c.strip_suffix.ensures.cases) in
    let r = c.split_last_digits.ensures in
    record {
      whole = e ∙ ap (λ (v : List ℕ). v ++ c.name.result.now) r.whole ∙ append_assoc c.split_last_digits.result.0.now c.split_last_digits.result.1.now c.name.result.now ∙ ap (λ (n : List ℕ). c.split_last_digits.result.0.now ++ (c.split_last_digits.result.1.now ++ n)) c.name.ensures;
      each = r.each;
      longest = r.longest;
    }
