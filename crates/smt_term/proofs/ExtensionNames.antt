-- The operators on values of the extension types by their names: each has its own.
use Rattle.std.proofs.Common.{◌≡◌, ◌↔◌, ℕ, ◌+◌, ◌<◌, ◌≤◌, List, [], ◌∷◌, Some, None, false, true, cond, drop, get_or, refl, sym, ap, ◌∙◌}
use Rattle.std.specs.Prelude.{bytes_eq, map, Option}
use Rattle.std.specs.Map.{lookup}
use Rattle.std.proofs.lemmas.List.{at_drop_all, at_drop_more}
use Rattle.std.proofs.lemmas.Slice.Eq.{bytes_eq-Decides}
use Rattle.law_terms.specs.Names.{extension_op_name}
use Rattle.law_terms.specs.Plain.{ExtensionOp, DatetimeOfBitVecOp, DatetimeValOp, DecimalValOp, DurationOfBitVecOp, DurationValOp, IpAddrV4Op, IpAddrV6Op, IpIsV4Op, IpPrefixV4Op, IpPrefixV6Op}
use Rattle.smt_term.specs.ExtensionView.{plain_extension_op}
use Rattle.smt_term.specs.declared.extension.ExtOp.{ExtOp}
use Rattle.smt_term.specs.declared.extension.ExtOp.TheVariants.{DatetimeOfBitVec, DatetimeVal, DecimalVal, DurationOfBitVec, DurationVal, IpaddrAddrV4, IpaddrAddrV6, IpaddrIsV4, IpaddrPrefixV4, IpaddrPrefixV6}

-- the operators in their order
abbrev pub all_operators : List ExtOp
all_operators = DatetimeOfBitVec ∷ DatetimeVal ∷ DecimalVal ∷ DurationOfBitVec ∷ DurationVal ∷ IpaddrAddrV4 ∷ IpaddrAddrV6 ∷ IpaddrIsV4 ∷ IpaddrPrefixV4 ∷ IpaddrPrefixV6 ∷ []

abbrev pub name_of : ExtOp → List ℕ
name_of op = extension_op_name (plain_extension_op op)

-- an operator by its name
abbrev pub named : List ℕ → Option ExtensionOp
named n = lookup (bytes_eq n) (map (λ op. (name_of op, plain_extension_op op)) all_operators)

named_itself : (o : ExtensionOp) → named (extension_op_name o) ≡ Some o
named_itself DatetimeOfBitVecOp = refl
named_itself DatetimeValOp = refl
named_itself DecimalValOp = refl
named_itself DurationOfBitVecOp = refl
named_itself DurationValOp = refl
named_itself IpAddrV4Op = refl
named_itself IpAddrV6Op = refl
named_itself IpIsV4Op = refl
named_itself IpPrefixV4Op = refl
named_itself IpPrefixV6Op = refl

inner : (a b : ExtensionOp) → ◌≡◌ {A = Option ExtensionOp} (Some a) (Some b) → a ≡ b
inner a b e = cc

-- operators of one name are one
pub one_name : (o p : ExtensionOp) → extension_op_name o ≡ extension_op_name p → o ≡ p
one_name o p e = inner o p (sym (named_itself o) ∙ (ap named e ∙ named_itself p))

-- the operator of a name is the one that has it
pub found_by_name : (op : ExtOp) (n : List ℕ) → name_of op ≡ n → (o : ExtensionOp) → (◌≡◌ {A = Option ExtensionOp} (Some (plain_extension_op op)) (Some o)) ↔ (extension_op_name o ≡ n)
found_by_name op n e o = (λ h. ap extension_op_name (sym (inner (plain_extension_op op) o h)) ∙ e, λ h. ap Some (one_name (plain_extension_op op) o (e ∙ sym h)))

pub found_by_bytes : (op : ExtOp) (n m : List ℕ) → m ≡ name_of op → true ≡ bytes_eq n m → (o : ExtensionOp) → (◌≡◌ {A = Option ExtensionOp} (Some (plain_extension_op op)) (Some o)) ↔ (extension_op_name o ≡ n)
found_by_bytes op n m e h = found_by_name op n (sym ((bytes_eq-Decides n m).0 (sym h) ∙ e))

-- where none has the name, none is found
pub none_by_name : (n : List ℕ) → None ≡ named n → (o : ExtensionOp) → (◌≡◌ {A = Option ExtensionOp} None (Some o)) ↔ (extension_op_name o ≡ n)
none_by_name n e o = (λ h. cc, λ h. e ∙ (ap named (sym h) ∙ named_itself o))

-- a look-up by a name in the operators that are left passes over the first of them where that has another name
abbrev pub left_named : List ℕ → ℕ → Option ExtensionOp
left_named n i = lookup (bytes_eq n) (map (λ op. (name_of op, plain_extension_op op)) (drop i all_operators))

pub passed_over : (n : List ℕ) (i : ℕ) (op : ExtOp) → i < 10 → op ≡ get_or all_operators i op → bytes_eq n (name_of op) ≡ false → left_named n (i + 1) ≡ left_named n i
passed_over n i op l at e =
    sym (at_drop_more (λ ops. lookup (bytes_eq n) (map (λ x. (name_of x, plain_extension_op x)) ops)) all_operators i op l
    ∙ ap (λ x. cond (bytes_eq n (name_of x)) (Some (plain_extension_op x)) (left_named n (i + 1))) (sym at)
    ∙ ap (λ b. cond b (Some (plain_extension_op op)) (left_named n (i + 1))) e)

-- the same by the test that the code makes
pub passed_by_bytes : (n m : List ℕ) (i : ℕ) (op : ExtOp) → i < 10 → op ≡ get_or all_operators i op → m ≡ name_of op → false ≡ bytes_eq n m → left_named n i ≡ named n → left_named n (i + 1) ≡ named n
passed_by_bytes n m i op l at e h found = passed_over n i op l at (ap (bytes_eq n) (sym e) ∙ sym h) ∙ found

-- where no operator is left, none has the name
pub none_left : (n : List ℕ) (i : ℕ) → 10 ≤ i → left_named n i ≡ named n → (o : ExtensionOp) → (◌≡◌ {A = Option ExtensionOp} None (Some o)) ↔ (extension_op_name o ≡ n)
none_left n i l found = none_by_name n (sym (ap (λ ops. lookup (bytes_eq n) (map (λ x. (name_of x, plain_extension_op x)) ops)) (at_drop_all (λ (ops : List ExtOp). ops) all_operators i l)) ∙ found)

pub ruleset by_name = (found_by_bytes, passed_by_bytes, none_left)
