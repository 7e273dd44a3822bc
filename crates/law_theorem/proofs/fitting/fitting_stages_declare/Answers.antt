use Rattle.law_theorem.proofs.Distinct as distinct
use Rattle.law_theorem.proofs.FineTerms as fine
use Rattle.law_theorem.proofs.Free as free
use Rattle.law_theorem.proofs.Models as models
use Rattle.law_theorem.proofs.Named as named
use Rattle.law_theorem.proofs.OpenEntries as open_names
use Rattle.law_theorem.proofs.fitting.fitting_stages_declare.Goals as goal

pub returns : goal.returns
returns c enums x state e f =
    let stands = named.reached_is_declared enums x.tables x.terms state f.declared (fine.conditions_are_fine enums x.terms f.conditions) e (distinct.drawn_names_differ enums x.tables f.drawn) (models.texts_are_there x.tables x.terms _ f.assertions) in
    (stands, open_names.names_are_open enums x state f, free.reached_are_open enums x.tables state x.terms f.declared stands)
