-- The operators on extension values that jobs call: which one a name calls is told by the names of all.
use Rattle.std.proofs.Common.{◌≡◌, ◌↔◌, ℕ, Bool, true, false, cond, List, [], ◌∷◌, Option, Some, None, bytes_eq, map, refl, ap, sym, ◌∙◌}
use Rattle.std.specs.Map.{lookup}
use Rattle.std.proofs.lemmas.Slice.Eq.{bytes_eq-Decides}
use Rattle.law_terms.specs.Names.{extension_op_name}
use Rattle.law_terms.specs.Plain.{ExtensionOp, DatetimeOfBitVecOp, DatetimeValOp, DecimalValOp, DurationOfBitVecOp, DurationValOp, IpAddrV4Op, IpAddrV6Op, IpIsV4Op, IpPrefixV4Op, IpPrefixV6Op, PlainOp, ExtOp}
use Rattle.law_jobs.specs.Terms.{extension_named, extension_operators}
use Rattle.smt_term.specs.ExtensionView.{plain_extension_op}
use Rattle.smt_term.specs.declared.extension.ExtOp.{ExtOp as ProgramOp}

-- each operator is found by its own name
found_itself : (o : ExtensionOp) → extension_named (extension_op_name o) ≡ Some (ExtOp o)
found_itself DatetimeOfBitVecOp = refl
found_itself DatetimeValOp = refl
found_itself DecimalValOp = refl
found_itself DurationOfBitVecOp = refl
found_itself DurationValOp = refl
found_itself IpAddrV4Op = refl
found_itself IpAddrV6Op = refl
found_itself IpIsV4Op = refl
found_itself IpPrefixV4Op = refl
found_itself IpPrefixV6Op = refl

-- a name that the first does not have is looked for among the others
passed : (n m : List ℕ) (b : Bool) (o : PlainOp) (others : Option PlainOp) → bytes_eq n m ≡ b → (m ≡ n → ⊥) → others ≡ None → cond b (Some o) others ≡ None
passed n m true o others e other h = absurd (other (sym ((bytes_eq-Decides n m).0 e)))
passed n m false o others e other h = h

-- a name that none has is found with none
none_known : (n : List ℕ) → ((o : ExtensionOp) → extension_op_name o ≡ n → ⊥) → (os : List ExtensionOp) → lookup (bytes_eq n) (map (λ o. (extension_op_name o, ExtOp o)) os) ≡ None
none_known n unknown [] = refl
none_known n unknown (o ∷ os) =
    passed n (extension_op_name o) (bytes_eq n (extension_op_name o)) (ExtOp o) (lookup (bytes_eq n) (map (λ p. (extension_op_name p, ExtOp p)) os)) refl (unknown o) (none_known n unknown os)

-- the operator that has the name is the one that it calls
pub some_by_name : (n : List ℕ) (op : ProgramOp) → ((o : ExtensionOp) → (◌≡◌ {A = Option ExtensionOp} (Some (plain_extension_op op)) (Some o)) ↔ (extension_op_name o ≡ n)) → Some (ExtOp (plain_extension_op op)) ≡ extension_named n
some_by_name n op is = sym (found_itself (plain_extension_op op)) ∙ ap extension_named ((is (plain_extension_op op)).0 refl)

-- where none has the name, it calls none
pub none_by_name : (n : List ℕ) → ((o : ExtensionOp) → (◌≡◌ {A = Option ExtensionOp} None (Some o)) ↔ (extension_op_name o ≡ n)) → None ≡ extension_named n
none_by_name n is = sym (none_known n (λ o h. absurd (no_one o ((is o).1 h))) extension_operators)
  where
    no_one : (o : ExtensionOp) → ◌≡◌ {A = Option ExtensionOp} None (Some o) → ⊥
    no_one o e = cc

pub ruleset by_name = (some_by_name, none_by_name)
