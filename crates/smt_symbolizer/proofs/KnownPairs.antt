-- Values that are known stand in the order in which they stood among those that may not be.
use Rattle.std.proofs.Common.{◌≡◌, ℕ, List, [], ◌∷◌, Option, Some, None, Ok, Err, map, refl, ap, ◌∙◌, subst}
use Rattle.std.specs.Map.{keys_of}
use Rattle.std.specs.Prelude.{IsTrue}
use Rattle.std.specs.Rc.{rc_str_bytes}
use Rattle.std.specs.declared.alloc.Global.{Global}
use Rattle.std.specs.declared.rc.RcStr.{RcStr}
use Rattle.smt_values.specs.Plain.{KnownFields}
use Rattle.smt_values.specs.PlainValues.{PlainValue}
use Rattle.smt_values.specs.ValueView.{known_field as field_said, known_fields, parts_held}
use Rattle.smt_values.specs.declared.value.PartialMap.{PartialMap}
use Rattle.smt_values.specs.declared.value.PartialValue.{PartialValue}
use Rattle.smt_term.specs.SortedPairs.{sorted_pairs}
use Rattle.law_terms.specs.ValueOrder.{ascends, text_cmp}
use Rattle.law_cedar.specs.Tables.{known_field, known_value}
use Rattle.smt_term.proofs.InOrder.{pairs_in_order}
use Rattle.smt_values.specs.Outcomes.{Outcome, ◌>>=◌, each}

abbrev Pairs : Type 0
Pairs = List (List ℕ × PlainValue)

-- what is given has these keys
abbrev KeepsKeys : List (List ℕ) → Outcome Pairs → Type 0
KeepsKeys ks (Ok held) = keys_of held ≡ ks
KeepsKeys ks (Err fault) = Unit {0}

one_kept : (k : List ℕ) (ks : List (List ℕ)) (o : Option PlainValue) (os : Outcome Pairs) → KeepsKeys ks os → KeepsKeys (k ∷ ks) ((known_value o >>= λ v. Ok (k, v)) >>= λ a. os >>= λ rest. Ok (a ∷ rest))
one_kept k ks None os h = tt
one_kept k ks (Some v) (Err fault) h = tt
one_kept k ks (Some v) (Ok rest) h = ap (λ l. k ∷ l) h

keys_kept : (ps : KnownFields) → KeepsKeys (keys_of ps) (each known_field ps)
keys_kept [] = refl
keys_kept (p ∷ ps) = one_kept p.0 (keys_of ps) p.1 (each known_field ps) (keys_kept ps)

keys_said : (ps : List (RcStr Global × PartialValue)) → keys_of (map field_said ps) ≡ map (λ p. rc_str_bytes p.0) ps
keys_said [] = refl
keys_said (p ∷ ps) = ap (λ l. rc_str_bytes p.0 ∷ l) (keys_said ps)

parts_ascend : (fields : PartialMap) → IsTrue (ascends text_cmp (keys_of (known_fields fields)))
parts_ascend fields = ap (ascends text_cmp) (keys_said (parts_held fields)) ∙ fields.pairs.ascending

-- the values of a map are in order
pub known_in_order : (fields : PartialMap) (held : Pairs) → each known_field (known_fields fields) ≡ Ok held → sorted_pairs text_cmp held ≡ held
known_in_order fields held h =
    pairs_in_order text_cmp held (ap (ascends text_cmp) (subst (KeepsKeys (keys_of (known_fields fields))) h (keys_kept (known_fields fields))) ∙ parts_ascend fields)
