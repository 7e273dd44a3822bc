-- The attributes of pairs are those of what they say.
use Rattle.std.proofs.Common.{◌≡◌, List, [], ◌∷◌, map, refl, ap}
use Rattle.std.specs.Rc.{rc_str_bytes}
use Rattle.std.specs.declared.alloc.Global.{Global}
use Rattle.std.specs.declared.rc.RcStr.{RcStr}
use Rattle.smt_term.specs.Pairs.{attributes_in as attributes_beside}
use Rattle.law_terms.specs.Parts.{field_names, attribute_names}
use Rattle.smt_term.specs.View.{plain_attribute, plain_field}
use Rattle.law_terms.specs.Plain.{attribute_types, record_fields}
use Rattle.smt_term.specs.declared.term.Term.{Term}
use Rattle.smt_term.specs.declared.types.TermType.{TermType}

pub type_names : (ps : List (RcStr Global × TermType)) → attributes_beside ps ≡ attribute_names (attribute_types (map plain_attribute ps))
type_names [] = refl
type_names (p ∷ ps) = ap (λ l. rc_str_bytes p.0 ∷ l) (type_names ps)

pub term_names : (ps : List (RcStr Global × Term)) → attributes_beside ps ≡ field_names (record_fields (map plain_field ps))
term_names [] = refl
term_names (p ∷ ps) = ap (λ l. rc_str_bytes p.0 ∷ l) (term_names ps)
