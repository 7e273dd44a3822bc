-- Which command of the fragment an expression states.
use Rattle.std.proofs.Common.{◌≡◌, ℕ, Bool, true, false, cond, eqb, eqb-true, List, [], ◌∷◌, refl, sym, ap, ap₂, ◌∙◌, subst, inl, inr, Option, Some, None}
use Rattle.std.specs.Prelude.{codes, bytes_eq}
use Rattle.std.proofs.lemmas.Bool.{cases_Bool, and_parts, false≢true, cond-true, cond-false}
use Rattle.std.proofs.lemmas.Slice.Eq.{bytes_eq-Decides}
use Rattle.law_texts.specs.Lexicon.{Atom, Bits, Number, Text, Name}
use Rattle.law_texts.specs.Reading.{Expression, Leaf, Node, Expressions, Nil, Cons, expressions}
use Rattle.law_scripts.specs.Script.{Command, DeclareDatatype, DeclareConst, DefineFun, Assert, DeclareFun, SetLogic, SetOption, CheckSat, GetModel, Reset, Exit, Push, Pop, Constructor, State, constructor, group, keyword, name, operands, stated}
use Rattle.law_scripts.specs.Sorts.{same_atom, same_sort, same_sorts}
use Rattle.law_scripts.specs.Written.{option_command}
use Rattle.law_verdicts.specs.Fragment.{CommandsAreFound, alone, assertion, by_one, command_in, command_of, command_with, declaration, definition, if_within, is_within, logic, option, option_named, options}

-- ---- expressions that are the same

same_atoms : (a b : Atom) → same_atom a b ≡ true → a ≡ b
same_atoms (Bits v m) (Bits w n) h = let p = and_parts (eqb v w) (eqb m n) h in ap₂ Bits (eqb-true v w p.0) (eqb-true m n p.1)
same_atoms (Number m) (Number n) h = ap Number (eqb-true m n h)
same_atoms (Text s) (Text t) h = ap Text ((bytes_eq-Decides s t).0 h)
same_atoms (Name m) (Name n) h = ap Name ((bytes_eq-Decides m n).0 h)
same_atoms a b h = absurd (false≢true h)

mutual
  pub same_expression : (e f : Expression) → same_sort e f ≡ true → e ≡ f
  same_expression (Leaf a) (Leaf b) h = ap Leaf (same_atoms a b h)
  same_expression (Node es) (Node fs) h = ap Node (same_each es fs h)
  same_expression e f h = absurd (false≢true h)

  pub same_each : (es fs : Expressions) → same_sorts es fs ≡ true → es ≡ fs
  same_each Nil Nil h = refl
  same_each (Cons e es) (Cons f fs) h = let p = and_parts (same_sort e f) (same_sorts es fs) h in ap₂ Cons (same_expression e f p.0) (same_each es fs p.1)
  same_each es fs h = absurd (false≢true h)

-- ---- what is found states what was read

abbrev keyed : List ℕ → Expressions → Expression
keyed k es = Node (Cons (Leaf (Name k)) es)

some_command : (c d : Command) → Some c ≡ Some d → c ≡ d
some_command c d h = cc

-- one keyword of the chain
one_keyword : (k word : List ℕ) (es : Expressions) (found rest : Option Command) (c : Command) → (found ≡ Some c → stated c ≡ keyed word es) → (rest ≡ Some c → stated c ≡ keyed k es) → cond (bytes_eq k word) found rest ≡ Some c → stated c ≡ keyed k es
one_keyword k word es found rest c f g h = elim (cases_Bool (bytes_eq k word)) [
  | inl e ↦ f (sym (cond-true (bytes_eq k word) found rest e) ∙ h) ∙ ap (λ n. keyed n es) (sym ((bytes_eq-Decides k word).0 e))
  | inr e ↦ g (sym (cond-false (bytes_eq k word) found rest e) ∙ h)
]

asserted : (es : Expressions) (c : Command) → assertion es ≡ Some c → stated c ≡ keyed (codes "assert") es
asserted (Cons e Nil) c h = ap stated (sym (some_command (Assert e) c h))
asserted Nil c h = absurd cc
asserted (Cons e (Cons f es)) c h = absurd cc

defined : (es : Expressions) (c : Command) → definition es ≡ Some c → stated c ≡ keyed (codes "define-fun") es
defined (Cons (Leaf (Name n)) (Cons (Node Nil) (Cons sort (Cons body Nil)))) c h = ap stated (sym (some_command (DefineFun n sort body) c h))
defined es c h = absurd (nothing_else es c h)
  where
    nothing_else : (fs : Expressions) (d : Command) → None ≡ Some d → ⊥
    nothing_else fs d k = cc

declared : (es : Expressions) (c : Command) → declaration es ≡ Some c → stated c ≡ keyed (codes "declare-const") es
declared (Cons (Leaf (Name n)) (Cons sort Nil)) c h = ap stated (sym (some_command (DeclareConst n sort) c h))
declared es c h = absurd (nothing_else es c h)
  where
    nothing_else : (fs : Expressions) (d : Command) → None ≡ Some d → ⊥
    nothing_else fs d k = cc

in_logic : (es : Expressions) (c : Command) → logic es ≡ Some c → stated c ≡ keyed (codes "set-logic") es
in_logic (Cons (Leaf (Name l)) Nil) c h = ap stated (sym (some_command (SetLogic l) c h))
in_logic es c h = absurd (nothing_else es c h)
  where
    nothing_else : (fs : Expressions) (d : Command) → None ≡ Some d → ⊥
    nothing_else fs d k = cc

-- a test before a command
tested : (b : Bool) (x c : Command) → cond b (Some x) None ≡ Some c → (b ≡ true) × (x ≡ c)
tested true x c h = (refl, some_command x c h)
tested false x c h = absurd cc

option_set : (n : List ℕ) (v : Expression) (c : Command) → option_named n v ≡ Some c → stated c ≡ keyed (codes "set-option") (Cons (Leaf (Name n)) (Cons v Nil))
option_set [] v c h = absurd cc
option_set (b ∷ o) v c h =
    let p = tested (eqb b 58) (SetOption o v) c h in
    ap stated (sym p.1) ∙ ap (λ x. keyed (codes "set-option") (Cons (Leaf (Name (x ∷ o))) (Cons v Nil))) (sym (eqb-true b 58 p.0))

with_option : (es : Expressions) (c : Command) → option es ≡ Some c → stated c ≡ keyed (codes "set-option") es
with_option (Cons (Leaf (Name n)) (Cons v Nil)) c h = option_set n v c h
with_option es c h = absurd (nothing_else es c h)
  where
    nothing_else : (fs : Expressions) (d : Command) → None ≡ Some d → ⊥
    nothing_else fs d k = cc

option_declared : (es : Expressions) (c : Command) → options es ≡ Some c → stated c ≡ keyed (codes "declare-datatype") es
option_declared es c h =
    let p = tested (same_sorts es (expressions (operands option_command))) option_command c h in
    ap stated (sym p.1) ∙ ap (keyed (codes "declare-datatype")) (sym (same_each es (expressions (operands option_command)) p.0))

stands_alone : (x c : Command) (es : Expressions) → operands x ≡ [] → alone x es ≡ Some c → stated c ≡ keyed (keyword x) es
stands_alone x c Nil none h = ap stated (sym (some_command x c h)) ∙ ap (λ os. keyed (keyword x) (expressions os)) none
stands_alone x c (Cons e es) none h = absurd cc

one_level : (x c : Command) (es : Expressions) → operands x ≡ Leaf (Number 1) ∷ [] → by_one x es ≡ Some c → stated c ≡ keyed (keyword x) es
one_level x c (Cons (Leaf (Number n)) Nil) one h =
    let p = tested (eqb n 1) x c h in
    ap stated (sym p.1) ∙ ap (λ os. keyed (keyword x) (expressions os)) one ∙ ap (λ k. keyed (keyword x) (Cons (Leaf (Number k)) Nil)) (sym (eqb-true n 1 p.0))
one_level x c es one h = absurd (nothing_else es c h)
  where
    nothing_else : (fs : Expressions) (d : Command) → None ≡ Some d → ⊥
    nothing_else fs d k = cc

none_left : (k : List ℕ) (es : Expressions) (c : Command) → None ≡ Some c → stated c ≡ keyed k es
none_left k es c h = absurd cc

by_keyword : (k : List ℕ) (es : Expressions) (c : Command) → command_with k es ≡ Some c → stated c ≡ keyed k es
by_keyword k es c h =
    one_keyword k (codes "assert") es (assertion es) _ c (asserted es c)
    (one_keyword k (codes "define-fun") es (definition es) _ c (defined es c)
    (one_keyword k (codes "declare-const") es (declaration es) _ c (declared es c)
    (one_keyword k (codes "declare-datatype") es (options es) _ c (option_declared es c)
    (one_keyword k (codes "set-logic") es (logic es) _ c (in_logic es c)
    (one_keyword k (codes "set-option") es (option es) _ c (with_option es c)
    (one_keyword k (codes "check-sat") es (alone CheckSat es) _ c (stands_alone CheckSat c es refl)
    (one_keyword k (codes "get-model") es (alone GetModel es) _ c (stands_alone GetModel c es refl)
    (one_keyword k (codes "reset") es (alone Reset es) _ c (stands_alone Reset c es refl)
    (one_keyword k (codes "exit") es (alone Exit es) _ c (stands_alone Exit c es refl)
    (one_keyword k (codes "push") es (by_one Push es) _ c (one_level Push c es refl)
    (one_keyword k (codes "pop") es (by_one Pop es) _ c (one_level Pop c es refl) (none_left k es c)))))))))))) h

pub what_is_stated : (e : Expression) (c : Command) → command_of e ≡ Some c → stated c ≡ e
what_is_stated (Node (Cons (Leaf (Name k)) es)) c h = by_keyword k es c h
what_is_stated e c h = absurd (nothing_else e c h)
  where
    nothing_else : (f : Expression) (d : Command) → None ≡ Some d → ⊥
    nothing_else f d k = cc

-- ---- what states a command of the fragment is found

-- a constructor of these parts
abbrev made : List ℕ → List (List ℕ × Expression) → Constructor
made n xs = record { name = n; selectors = xs }

bare : (c n : List ℕ) (xs : List (List ℕ × Expression)) → constructor (made c xs) ≡ group (name n ∷ []) → made c xs ≡ made n []
bare c n [] h = let same : c ≡ n = cc in ap (λ m. made m []) same
bare c n (x ∷ xs) h = absurd cc

with_one : (c n m : List ℕ) (xs : List (List ℕ × Expression)) (sort : Expression) → constructor (made c xs) ≡ group (name n ∷ group (name m ∷ sort ∷ []) ∷ []) → made c xs ≡ made n ((m, sort) ∷ [])
with_one c n m [] sort h = absurd cc
with_one c n m (x ∷ []) sort h =
    let same : c ≡ n = cc in
    let first : x.0 ≡ m = cc in
    let second : x.1 ≡ sort = cc in
    ap₂ made same (ap₂ (λ (a : List ℕ) (b : Expression). (a, b) ∷ []) first second)
with_one c n m (x ∷ y ∷ xs) sort h = absurd cc

pub is_option : (d : List ℕ) (ps : List (List ℕ)) (cs : List Constructor) → stated (DeclareDatatype d ps cs) ≡ stated option_command → DeclareDatatype d ps cs ≡ option_command
is_option d [] [] h = absurd cc
is_option d [] (c ∷ cs) h = absurd cc
is_option d (p ∷ []) [] h = absurd cc
is_option d (p ∷ []) (a ∷ []) h = absurd cc
is_option d (p ∷ []) (a ∷ b ∷ []) h =
    let named : d ≡ codes "Option" = cc in
    let parameter : p ≡ codes "X" = cc in
    let first : constructor a ≡ group (name (codes "none") ∷ []) = cc in
    let second : constructor b ≡ group (name (codes "some") ∷ group (name (codes "val") ∷ name (codes "X") ∷ []) ∷ []) = cc in
    ap₂ (λ (n : List ℕ) (rest : List (List ℕ) × List Constructor). DeclareDatatype n rest.0 rest.1) named
    (ap₂ (λ (n : List ℕ) (cs : List Constructor). (n ∷ [], cs)) parameter
    (ap₂ (λ (x y : Constructor). x ∷ y ∷ []) (bare a.name (codes "none") a.selectors first) (with_one b.name (codes "some") (codes "val") b.selectors (name (codes "X")) second)))
is_option d (p ∷ []) (a ∷ b ∷ c ∷ cs) h = absurd cc
is_option d (p ∷ q ∷ ps) cs h = absurd cc

-- the command of an expression that states one is this one
pub stated_one : (c : Command) (s : State) → is_within s c ≡ true → command_of (stated c) ≡ Some c
stated_one (DeclareDatatype d ps cs) s h = subst (λ c. command_of (stated c) ≡ Some c) (sym (is_option d ps cs (same_expression (stated (DeclareDatatype d ps cs)) (stated option_command) h))) refl
stated_one (DeclareConst n sort) s h = refl
stated_one (DefineFun n sort body) s h = refl
stated_one (Assert e) s h = refl
stated_one (DeclareFun f argument sort) s h = absurd (false≢true h)
stated_one (SetLogic l) s h = refl
stated_one (SetOption o v) s h = refl
stated_one CheckSat s h = refl
stated_one GetModel s h = refl
stated_one Reset s h = refl
stated_one Exit s h = refl
stated_one Push s h = refl
stated_one Pop s h = refl

-- so one that is found is the one that was stated
pub same_statement : (c d : Command) → command_of (stated c) ≡ Some d → d ≡ c
same_statement (DeclareDatatype d ps cs) x h =
    let p = tested (same_sorts (expressions (operands (DeclareDatatype d ps cs))) (expressions (operands option_command))) option_command x h in
    sym p.1 ∙ sym (is_option d ps cs (sym (what_is_stated (stated (DeclareDatatype d ps cs)) x h) ∙ ap stated (sym p.1)))
same_statement (DeclareConst n sort) d h = sym (some_command (DeclareConst n sort) d h)
same_statement (DefineFun n sort body) d h = sym (some_command (DefineFun n sort body) d h)
same_statement (Assert e) d h = sym (some_command (Assert e) d h)
same_statement (DeclareFun f argument sort) d h = absurd cc
same_statement (SetLogic l) d h = sym (some_command (SetLogic l) d h)
same_statement (SetOption o v) d h = sym (some_command (SetOption o v) d h)
same_statement CheckSat d h = sym (some_command CheckSat d h)
same_statement GetModel d h = sym (some_command GetModel d h)
same_statement Reset d h = sym (some_command Reset d h)
same_statement Exit d h = sym (some_command Exit d h)
same_statement Push d h = sym (some_command Push d h)
same_statement Pop d h = sym (some_command Pop d h)

pub within_gives : (s : State) (o : Option Command) (c : Command) → if_within s o ≡ Some c → (o ≡ Some c) × (is_within s c ≡ true)
within_gives s None c h = absurd cc
within_gives s (Some x) c h = let p = tested (is_within s x) x c h in (ap Some p.1, subst (λ y. is_within s y ≡ true) p.1 p.0)

pub found_is : (s : State) (c : Command) (e : Expression) → command_in s e ≡ Some c → (stated c ≡ e) × (is_within s c ≡ true)
found_is s c e h = let p = within_gives s (command_of e) c h in (what_is_stated e c p.0, p.1)

pub is_found_so : (s : State) (c : Command) → is_within s c ≡ true → command_in s (stated c) ≡ Some c
is_found_so s c h = ap (if_within s) (stated_one c s h) ∙ cond-true (is_within s c) (Some c) None h

pub commands_are_found : CommandsAreFound
commands_are_found s c e = (found_is s c e, λ same within. subst (λ x. command_in s x ≡ Some c) same (is_found_so s c within))
