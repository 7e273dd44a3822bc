use Rattle.std.proofs.Common.{Option, Some, None, ◌≡◌, option_map, refl, sym, ap, ◌∙◌, Bor}
use Rattle.smt_term.specs.TextSets.{texts_of}
use Rattle.smt_term.specs.declared.texts.TextSet.{TextSet}
use Rattle.smt_term.proofs.EnumEntries.{lookup-said}
use Rattle.smt_term.proofs.enums.EnumTable.members_of.Goals as goal

behind : (o : Option (Bor TextSet)) → option_map (λ set. texts_of set.now) o ≡ option_map texts_of (option_map (λ set. set.now) o)
behind None = refl
behind (Some set) = refl

pub returns : goal.returns
returns c = behind c.get.result ∙ (ap (option_map texts_of) c.get.ensures.value ∙ sym (lookup-said c.args.ety.now c.args.self.now.types.entries))
