-- Levels that stand for a state stand for what a command leaves of it.
use Rattle.std.proofs.Common.{◌≡◌, ℕ, ◌≤◌, Bool, true, false, ◌&&◌, ◌||◌, not, cond, List, [], ◌∷◌, ◌++◌, Option, Some, None, Result, length, map, reverse, take, codes, refl, sym, ap, ◌∙◌, subst, inl, inr, arith}
use Rattle.std.specs.Prelude.{if◌then◌else◌, nat_eq}
use Rattle.std.proofs.Math.Seq.{take-length}
use Rattle.std.proofs.lemmas.Bool.{and_parts, cases_Bool, cond-false, cond-true, or_parts}
use Rattle.std.proofs.lemmas.List.{append-nil, length-append, reverse-append, take-append-le}
use Rattle.law_texts.specs.Options.{◌>>=◌}
use Rattle.law_texts.specs.Reading.{Expression}
use Rattle.law_scripts.specs.Script as script
use Rattle.law_scripts.specs.Script.{Assert, Constant, Constructor, DeclareConst, DefineFun, Defined, Entry, Level, Push, State, are_distinct, built_in_sorts, declare, declare_constructors, declare_selectors, declared_sorts, has_constructor, has_sort, is_in, is_new_datatype, is_reserved, is_sort, is_taken, is_taken_sort, knows, name, obey, with_level, with_sort, without_level}
use Rattle.law_scripts.specs.Sorts.{bool_sort, same_sort}
use Rattle.law_scripts.specs.Written.{is_name, option_command}
use Rattle.law_verdicts.specs.Fragment.{is_formula, is_truth_name, is_within}
use Rattle.law_verdicts.proofs.Commands.{same_expression}
use Rattle.smt_mini.specs.declared.error.MiniError.{MiniError}
use Rattle.law_scripts.proofs.Results.{declares}
use Rattle.smt_mini.specs.Levels.{IsObeyed, Leaves, Obeys, StandFor, Stacked}
use Rattle.smt_mini.specs.Tables.{Fits, HasValue, IsMarked, Table, cut, gained, mark_of, table_of, with_assertion, with_constant, with_name, with_options}
use Rattle.smt_mini.specs.declared.gate.Gate.{Gate}
use Rattle.smt_mini.specs.declared.gate.Gate.TheVariants.{Input}
use Rattle.smt_mini.specs.declared.levels.Levels.{Levels}
use Rattle.smt_mini.specs.declared.tables.Mark.{Mark}
use Rattle.smt_mini.proofs.Fitting.{asserted_fits, bool_is_there, constant_fits, defined_fits, level_fits, none_entry, options_fit, some_entry, val_entry, with_none, with_some, with_val, x_is_there}

-- ---- tables that grow

-- The one table has all that the other has, and maybe more.
pub record Grows (t u : Table) : Type 0 where
  pub gates : (xs : List Gate) × (u.gates ≡ t.gates ++ xs)
  pub names : (xs : List (List ℕ × Option ℕ)) × (u.names ≡ t.names ++ xs)
  pub constants : (xs : List (List ℕ)) × (u.constants ≡ t.constants ++ xs)
  pub assertions : (xs : List ℕ) × (u.assertions ≡ t.assertions ++ xs)

longer : {A : Type 0} (n : ℕ) (xs ys zs : List A) → ys ≡ xs ++ zs → n ≤ length xs → n ≤ length ys
longer n xs ys zs e l = omega (arith, l, ap length e, length-append xs zs)

same_begin : {A : Type 0} (n : ℕ) (xs ys zs : List A) → ys ≡ xs ++ zs → n ≤ length xs → take n ys ≡ take n xs
same_begin n xs ys zs e l = ap (take n) e ∙ take-append-le n xs zs l

still_marked : (t u : Table) (m : Mark) → Grows t u → IsMarked m t → IsMarked m u
still_marked t u m g h = record {
  gates = longer m.gates t.gates u.gates g.gates.0 g.gates.1 h.gates;
  names = longer m.names t.names u.names g.names.0 g.names.1 h.names;
  constants = longer m.constants t.constants u.constants g.constants.0 g.constants.1 h.constants;
  assertions = longer m.assertions t.assertions u.assertions g.assertions.0 g.assertions.1 h.assertions;
}

same_cut : (t u : Table) (m : Mark) → Grows t u → IsMarked m t → cut m u ≡ cut m t
same_cut t u m g h =
    let gates = same_begin m.gates t.gates u.gates g.gates.0 g.gates.1 h.gates in
    let names = same_begin m.names t.names u.names g.names.0 g.names.1 h.names in
    let constants = same_begin m.constants t.constants u.constants g.constants.0 g.constants.1 h.constants in
    let assertions = same_begin m.assertions t.assertions u.assertions g.assertions.0 g.assertions.1 h.assertions in
    λ i. record { gates = gates i; names = names i; constants = constants i; assertions = assertions i; options = m.options }

-- ---- the top of the levels

without_same : (s v : State) (ls : List Level) → v.ended ≡ s.ended → without_level v ls ≡ without_level s ls
without_same s v [] e = refl
without_same s v (l ∷ ls) e = ap (λ b. Some (record { last = l; below = ls; ended = b })) e

stacked_on_top : (t u : Table) (ms : List Mark) (s v : State) → Stacked t ms s → Fits u v → v.below ≡ s.below → v.ended ≡ s.ended → Grows t u → Stacked u ms v
stacked_on_top t u [] s v h f b e g = (f, b ∙ h.1)
stacked_on_top t u (m ∷ ms) s v h f b e g =
    (f, still_marked t u m g h.1, h.2, ap (without_level v) b ∙ without_same s v s.below e ∙ h.3, subst (λ x. Stacked x ms h.2) (sym (same_cut t u m g h.1)) h.4)

pub top_fits : (t : Table) (ms : List Mark) (s : State) → Stacked t ms s → Fits t s
top_fits t [] s h = h.0
top_fits t (m ∷ ms) s h = h.0

-- ---- what commands leave

pub stands_fits : (old : Levels) (s : State) → StandFor old s → Fits (table_of old.tables) s
stands_fits old s h = top_fits (table_of old.tables) (reverse old.marks.items) s h

left_on_top : (old new : Levels) (s v : State) (o : Option State) → s.ended ≡ false → StandFor old s → new.marks ≡ old.marks → o ≡ Some v → v.below ≡ s.below → v.ended ≡ s.ended → Fits (table_of new.tables) v → Grows (table_of old.tables) (table_of new.tables) → Leaves new o
left_on_top old new s v o r h m e b f k g =
    subst (Leaves new) (sym e) (f ∙ r, subst (λ ms. Stacked (table_of new.tables) (reverse ms.items) v) (sym m) (stacked_on_top (table_of old.tables) (table_of new.tables) (reverse old.marks.items) s v h k b f g))

-- `(push 1)`
all_marked : (t : Table) → IsMarked (mark_of t) t
all_marked t = record { gates = omega arith; names = omega arith; constants = omega arith; assertions = omega arith }

nothing_cut : (t : Table) → cut (mark_of t) t ≡ t
nothing_cut t =
    let gates = take-length t.gates in
    let names = take-length t.names in
    let constants = take-length t.constants in
    let assertions = take-length t.assertions in
    λ i. record { gates = gates i; names = names i; constants = constants i; assertions = assertions i; options = t.options }

pub pushed : (old new : Levels) (s : State) → StandFor old s → new.tables ≡ old.tables → new.marks.items ≡ old.marks.items ++ mark_of (table_of old.tables) ∷ [] → StandFor new (with_level s)
pushed old new s h e m =
    let t = table_of old.tables in
    let marks : reverse new.marks.items ≡ mark_of t ∷ reverse old.marks.items = ap reverse m ∙ reverse-append old.marks.items (mark_of t ∷ []) in
    let level : Stacked t (mark_of t ∷ reverse old.marks.items) (with_level s) =
    (level_fits t s (stands_fits old s h), all_marked t, s, refl, subst (λ x. Stacked x (reverse old.marks.items) s) (sym (nothing_cut t)) h) in
    subst (λ x. Stacked (table_of x) (reverse new.marks.items) (with_level s)) (sym e) (subst (λ ms. Stacked t ms (with_level s)) (sym marks) level)

-- what can't be declared
declare_none : (n : List ℕ) (x : Entry) (s : State) → is_taken s n ≡ true → declare n x s ≡ None
declare_none n x s h = cond-true (is_taken s n) None (Some (script.with_name n x s)) h

if_none : (b : Bool) (o : Option State) → o ≡ None → cond b o None ≡ None
if_none true o h = h
if_none false o h = refl

pub constant_refused : (s : State) (n : List ℕ) → is_taken s n ≡ true → obey (DeclareConst n bool_sort) s ≡ None
constant_refused s n h = if_none (is_sort (has_sort s) bool_sort) (declare n (Constant bool_sort) s) (declare_none n (Constant bool_sort) s h)

pub definition_refused : (s : State) (n : List ℕ) (body : Expression) → is_taken s n ≡ true → obey (DefineFun n bool_sort body) s ≡ None
definition_refused s n body h = if_none (is_sort (has_sort s) bool_sort && knows s body) (declare n (Defined bool_sort body) s) (declare_none n (Defined bool_sort body) s h)

and_false : (a b : Bool) → b ≡ false → (a && b) ≡ false
and_false true b h = h
and_false false b h = refl

pub unknown_refused : (s : State) (n : List ℕ) (body : Expression) → knows s body ≡ false → obey (DefineFun n bool_sort body) s ≡ None
unknown_refused s n body h = cond-false (is_sort (has_sort s) bool_sort && knows s body) (declare n (Defined bool_sort body) s) None (and_false (is_sort (has_sort s) bool_sort) (knows s body) h)

pub assertion_refused : (s : State) (e : Expression) → knows s e ≡ false → obey (Assert e) s ≡ None
assertion_refused s e h = cond-false (knows s e) (Some (script.with_assertion e s)) None h

-- a constant
constant_grows : (t : Table) (n : List ℕ) → Grows t (with_constant t n)
constant_grows t n = record { gates = (Input (length t.constants) ∷ [], refl); names = ((n, Some (length t.gates)) ∷ [], refl); constants = (n ∷ [], refl); assertions = ([], sym (append-nil t.assertions)) }

pub declared : (old new : Levels) (s : State) (n : List ℕ) → s.ended ≡ false → StandFor old s → new.marks ≡ old.marks → is_taken s n ≡ false → table_of new.tables ≡ with_constant (table_of old.tables) n → Leaves new (obey (DeclareConst n bool_sort) s)
declared old new s n r h m a k =
    let t = table_of old.tables in
    let b = bool_is_there t s (stands_fits old s h) in
    left_on_top old new s (script.with_name n (Constant bool_sort) s) (obey (DeclareConst n bool_sort) s) r h m
    (cond-true (is_sort (has_sort s) bool_sort) (declare n (Constant bool_sort) s) None b ∙ declares n (Constant bool_sort) s a) refl refl
    (subst (λ u. Fits u (script.with_name n (Constant bool_sort) s)) (sym k) (constant_fits t s n (stands_fits old s h) a b))
    (subst (Grows t) (sym k) (constant_grows t n))

-- a definition, behind the gates of its body
pub defined : (old new : Levels) (mid : Table) (s : State) (n : List ℕ) (body : Expression) (gs : List Gate) (p : ℕ) → s.ended ≡ false → StandFor old s → new.marks ≡ old.marks → is_taken s n ≡ false
    → mid ≡ gained (table_of old.tables) gs → HasValue mid s body p → Fits mid s → table_of new.tables ≡ with_name mid n (Some p) → Leaves new (obey (DefineFun n bool_sort body) s)
defined old new mid s n body gs p r h m a g v f k =
    let t = table_of old.tables in
    let b = bool_is_there t s (stands_fits old s h) in
    let x = Defined bool_sort body in
    let grows : Grows t (with_name (gained t gs) n (Some p)) = record { gates = (gs, refl); names = ((n, Some p) ∷ [], refl); constants = ([], sym (append-nil t.constants)); assertions = ([], sym (append-nil t.assertions)) } in
    left_on_top old new s (script.with_name n x s) (obey (DefineFun n bool_sort body) s) r h m
    (cond-true (is_sort (has_sort s) bool_sort && knows s body) (declare n x s) None (and_true (is_sort (has_sort s) bool_sort) (knows s body) b v.known) ∙ declares n x s a) refl refl
    (subst (λ u. Fits u (script.with_name n x s)) (sym k) (defined_fits mid s n body p f a b v))
    (subst (Grows t) (sym (k ∙ ap (λ u. with_name u n (Some p)) g)) grows)
  where
    and_true : (a b : Bool) → a ≡ true → b ≡ true → (a && b) ≡ true
    and_true a b h k = rw (h, k) refl

-- an assertion, behind the gates of its formula
pub asserted : (old new : Levels) (mid : Table) (s : State) (e : Expression) (gs : List Gate) (p : ℕ) → s.ended ≡ false → StandFor old s → new.marks ≡ old.marks
    → mid ≡ gained (table_of old.tables) gs → HasValue mid s e p → Fits mid s → table_of new.tables ≡ with_assertion mid p → Leaves new (obey (Assert e) s)
asserted old new mid s e gs p r h m g v f k =
    let t = table_of old.tables in
    let grows : Grows t (with_assertion (gained t gs) p) = record { gates = (gs, refl); names = ([], sym (append-nil t.names)); constants = ([], sym (append-nil t.constants)); assertions = (p ∷ [], refl) } in
    left_on_top old new s (script.with_assertion e s) (obey (Assert e) s) r h m
    (cond-true (knows s e) (Some (script.with_assertion e s)) None v.known) refl refl
    (subst (λ u. Fits u (script.with_assertion e s)) (sym k) (asserted_fits mid s e p f v))
    (subst (Grows t) (sym (k ∙ ap (λ u. with_assertion u p) g)) grows)

-- ---- the datatype Option

abbrev none_built : Constructor
none_built = record { name = codes "none"; selectors = [] }

abbrev some_built : Constructor
some_built = record { name = codes "some"; selectors = (codes "val", name (codes "X")) ∷ [] }

abbrev both_built : List Constructor
both_built = none_built ∷ some_built ∷ []

abbrev xs : List (List ℕ)
xs = codes "X" ∷ []

abbrev then_sorted : State → Option State
then_sorted t = Some (with_sort (codes "Option") 1 t)

-- it is new where it was not declared
new_datatype : (t : Table) (s : State) → Fits t s → is_new_datatype s (codes "Option") xs both_built ≡ not t.options
new_datatype t s h =
    ap (λ ds. not ((is_in (codes "Option") (codes "BitVec" ∷ map (λ p. p.0) (ds ++ built_in_sorts)) || is_reserved (codes "Option")) || ((is_in (codes "X") (codes "BitVec" ∷ map (λ p. p.0) (ds ++ built_in_sorts)) || is_reserved (codes "X")) || false)) && (are_distinct xs && has_constructor both_built)) h.sorts ∙ by t.options
  where
    by : (b : Bool) → (not ((is_in (codes "Option") (codes "BitVec" ∷ map (λ p. p.0) ((if b then (codes "Option", 1) ∷ [] else []) ++ built_in_sorts)) || is_reserved (codes "Option")) || ((is_in (codes "X") (codes "BitVec" ∷ map (λ p. p.0) ((if b then (codes "Option", 1) ∷ [] else []) ++ built_in_sorts)) || is_reserved (codes "X")) || false)) && (are_distinct xs && has_constructor both_built)) ≡ not b
    by true = refl
    by false = refl

bind_nothing : (o : Option State) (f : State → Option State) → o ≡ None → (o >>= f) ≡ None
bind_nothing o f h = ap (λ x. x >>= f) h

bind_same : (o : Option State) (s : State) (f : State → Option State) → o ≡ Some s → (o >>= f) ≡ f s
bind_same o s f h = ap (λ x. x >>= f) h

-- the selector
selector_declared : (s : State) → is_taken s (codes "val") ≡ false → declare_selectors (codes "Option") xs (codes "some") 0 ((codes "val", name (codes "X")) ∷ []) (with_some s) ≡ Some (with_val s)
selector_declared s h =
    cond-true (is_sort (λ n k. has_sort (with_some s) n k || (is_in n xs && nat_eq k 0)) (name (codes "X"))) (declare (codes "val") val_entry (with_some s) >>= declare_selectors (codes "Option") xs (codes "some") 1 []) None (x_is_there (with_some s))
    ∙ bind_same (declare (codes "val") val_entry (with_some s)) (with_val s) (declare_selectors (codes "Option") xs (codes "some") 1 []) (declares (codes "val") val_entry (with_some s) h)

selector_refused : (s : State) → is_taken s (codes "val") ≡ true → declare_selectors (codes "Option") xs (codes "some") 0 ((codes "val", name (codes "X")) ∷ []) (with_some s) ≡ None
selector_refused s h =
    if_none (is_sort (λ n k. has_sort (with_some s) n k || (is_in n xs && nat_eq k 0)) (name (codes "X"))) (declare (codes "val") val_entry (with_some s) >>= declare_selectors (codes "Option") xs (codes "some") 1 [])
    (bind_nothing (declare (codes "val") val_entry (with_some s)) (declare_selectors (codes "Option") xs (codes "some") 1 []) (declare_none (codes "val") val_entry (with_some s) h))

-- the second constructor
abbrev behind_some : State → Option State
behind_some u = declare_selectors (codes "Option") xs (codes "some") 0 ((codes "val", name (codes "X")) ∷ []) u >>= declare_constructors (codes "Option") xs 2 []

second_declared : (s : State) → is_taken s (codes "some") ≡ false → is_taken s (codes "val") ≡ false → declare_constructors (codes "Option") xs 1 (some_built ∷ []) (with_none s) ≡ Some (with_val s)
second_declared s h k =
    bind_same (declare (codes "some") some_entry (with_none s)) (with_some s) behind_some (declares (codes "some") some_entry (with_none s) h)
    ∙ bind_same (declare_selectors (codes "Option") xs (codes "some") 0 ((codes "val", name (codes "X")) ∷ []) (with_some s)) (with_val s) (declare_constructors (codes "Option") xs 2 []) (selector_declared s k)

second_refused : (s : State) → (is_taken s (codes "some") || is_taken s (codes "val")) ≡ true → declare_constructors (codes "Option") xs 1 (some_built ∷ []) (with_none s) ≡ None
second_refused s h = elim (cases_Bool (is_taken s (codes "some"))) [
  | inl k ↦ bind_nothing (declare (codes "some") some_entry (with_none s)) behind_some (declare_none (codes "some") some_entry (with_none s) k)
  | inr k ↦
      bind_same (declare (codes "some") some_entry (with_none s)) (with_some s) behind_some (declares (codes "some") some_entry (with_none s) k)
      ∙ bind_nothing (declare_selectors (codes "Option") xs (codes "some") 0 ((codes "val", name (codes "X")) ∷ []) (with_some s)) (declare_constructors (codes "Option") xs 2 []) (selector_refused s (ap (λ b. b || is_taken s (codes "val")) (sym k) ∙ h))
]

-- both constructors
first_declared : (s : State) → is_taken s (codes "none") ≡ false → is_taken s (codes "some") ≡ false → is_taken s (codes "val") ≡ false → declare_constructors (codes "Option") xs 0 both_built s ≡ Some (with_val s)
first_declared s h k l =
    bind_same (declare (codes "none") none_entry s) (with_none s) (λ u. declare_constructors (codes "Option") xs 1 (some_built ∷ []) u) (declares (codes "none") none_entry s h) ∙ second_declared s k l

first_refused : (s : State) → (is_taken s (codes "none") || (is_taken s (codes "some") || is_taken s (codes "val"))) ≡ true → declare_constructors (codes "Option") xs 0 both_built s ≡ None
first_refused s h = elim (cases_Bool (is_taken s (codes "none"))) [
  | inl k ↦ bind_nothing (declare (codes "none") none_entry s) (λ u. declare_constructors (codes "Option") xs 1 (some_built ∷ []) u) (declare_none (codes "none") none_entry s k)
  | inr k ↦
      bind_same (declare (codes "none") none_entry s) (with_none s) (λ u. declare_constructors (codes "Option") xs 1 (some_built ∷ []) u) (declares (codes "none") none_entry s k)
      ∙ second_refused s (ap (λ b. b || (is_taken s (codes "some") || is_taken s (codes "val"))) (sym k) ∙ h)
]

pub again_refused : (t : Table) (s : State) → Fits t s → t.options ≡ true → obey option_command s ≡ None
again_refused t s h o = cond-false (is_new_datatype s (codes "Option") xs both_built) (declare_constructors (codes "Option") xs 0 both_built s >>= then_sorted) None (new_datatype t s h ∙ ap not o)

pub options_refused : (s : State) → (is_taken s (codes "none") || (is_taken s (codes "some") || is_taken s (codes "val"))) ≡ true → obey option_command s ≡ None
options_refused s h = if_none (is_new_datatype s (codes "Option") xs both_built) (declare_constructors (codes "Option") xs 0 both_built s >>= then_sorted) (bind_nothing (declare_constructors (codes "Option") xs 0 both_built s) then_sorted (first_refused s h))

pub options_declared : (old new : Levels) (s : State) → s.ended ≡ false → StandFor old s → new.marks ≡ old.marks → (table_of old.tables).options ≡ false → (is_taken s (codes "none") || (is_taken s (codes "some") || is_taken s (codes "val"))) ≡ false
    → table_of new.tables ≡ with_options (table_of old.tables) → Leaves new (obey option_command s)
options_declared old new s r h m o a k =
    let t = table_of old.tables in
    let f = stands_fits old s h in
    let p = or_parts (is_taken s (codes "none")) (is_taken s (codes "some") || is_taken s (codes "val")) a in
    let q = or_parts (is_taken s (codes "some")) (is_taken s (codes "val")) p.1 in
    let grows : Grows t (with_options t) = record {
      gates = ([], sym (append-nil t.gates));
      names = ((codes "none", None) ∷ (codes "some", None) ∷ (codes "val", None) ∷ [], three t.names (codes "none", None) (codes "some", None) (codes "val", None));
      constants = ([], sym (append-nil t.constants));
      assertions = ([], sym (append-nil t.assertions));
    } in
    left_on_top old new s (with_sort (codes "Option") 1 (with_val s)) (obey option_command s) r h m
    (cond-true (is_new_datatype s (codes "Option") xs both_built) (declare_constructors (codes "Option") xs 0 both_built s >>= then_sorted) None (new_datatype t s f ∙ ap not o)
    ∙ bind_same (declare_constructors (codes "Option") xs 0 both_built s) (with_val s) then_sorted (first_declared s p.0 q.0 q.1)) refl refl
    (subst (λ u. Fits u (with_sort (codes "Option") 1 (with_val s))) (sym k) (options_fit t s f o p.0 q.0 q.1))
    (subst (Grows t) (sym k) grows)
  where
    three : (ns : List (List ℕ × Option ℕ)) (a b c : List ℕ × Option ℕ) → ((ns ++ a ∷ []) ++ b ∷ []) ++ c ∷ [] ≡ ns ++ a ∷ b ∷ c ∷ []
    three [] a b c = refl
    three (n ∷ ns) a b c = ap (λ ms. n ∷ ms) (three ns a b c)

-- ---- the one sort

pub sorted_constant : {A : Type 0} (old new : Levels) (result : Result A MiniError) (n : List ℕ) (sort : Expression) → Obeys old new (DeclareConst n bool_sort) result → Obeys old new (DeclareConst n sort) result
sorted_constant old new result n sort k s h r w =
    let e = same_expression sort bool_sort (and_parts (is_name n) (same_sort sort bool_sort) w).1 in
    subst (λ x. IsObeyed new result (obey (DeclareConst n x) s)) (sym e) (k s h r (subst (λ x. is_within s (DeclareConst n x) ≡ true) e w))

pub sorted_definition : {A : Type 0} (old new : Levels) (result : Result A MiniError) (n : List ℕ) (sort body : Expression) → Obeys old new (DefineFun n bool_sort body) result → Obeys old new (DefineFun n sort body) result
sorted_definition old new result n sort body k s h r w =
    let p = and_parts (is_name n) (same_sort sort bool_sort && is_formula (is_truth_name s) body) w in
    let e = same_expression sort bool_sort (and_parts (same_sort sort bool_sort) (is_formula (is_truth_name s) body) p.1).0 in
    subst (λ x. IsObeyed new result (obey (DefineFun n x body) s)) (sym e) (k s h r (subst (λ x. is_within s (DefineFun n x body) ≡ true) e w))
