-- What every change of a state keeps holds of the states that commands leave: the one induction over commands.
use Rattle.std.proofs.Common.{◌≡◌, ◌⊎◌, ℕ, suc, Bool, true, false, ◌&&◌, ◌||◌, eqb, List, [], ◌∷◌, map, length, refl, ap, ◌∙◌, subst, inl, inr, Some}
use Rattle.std.proofs.lemmas.Bool.{and_parts, cond-false}
use Rattle.law_texts.specs.Reading.{Expression}
use Rattle.law_scripts.specs.Script.{Command, DeclareDatatype, DeclareConst, DefineFun, Assert, DeclareFun, SetLogic, SetOption, CheckSat, GetModel, Reset, Exit, Push, Pop, Constructor, Entry, Constant, Function, Defined, Builds, Selects, Level, State, Script, start, is_in, is_taken, is_new_datatype, is_simple_symbol, is_attribute_value, is_sort, has_sort, knows, declare, declare_selectors, declare_constructors, with_name, with_sort, with_assertion, with_level, without_level, obey, step, run}
use Rattle.law_texts.specs.Options.{◌>>=◌}
use Rattle.law_scripts.proofs.Results.{some_is, if_not, if_so, if_either, bind_gives}

-- ---- changes

-- one change that a command makes to a state; `reset` and `pop` take away instead
pub data Change : Type 0 where
  AddsName : (name : List ℕ) → (entry : Entry) → Change
  AddsSort : (name : List ℕ) → (parameters : ℕ) → Change
  AddsAssertion : Expression → Change
  AddsLevel : Change
  Ends : Change

abbrev pub changed : Change → State → State
changed (AddsName n x) s = with_name n x s
changed (AddsSort d parameters) s = with_sort d parameters s
changed (AddsAssertion e) s = with_assertion e s
changed AddsLevel s = with_level s
changed Ends s = record s { ended = true }

-- the sorts and the names in an entry are there
abbrev pub IsKnown : State → Entry → Type 0
IsKnown s (Constant sort) = is_sort (has_sort s) sort ≡ true
IsKnown s (Function argument sort) = (is_sort (has_sort s) argument ≡ true) × (is_sort (has_sort s) sort ≡ true)
IsKnown s (Defined sort body) = (is_sort (has_sort s) sort ≡ true) × (knows s body ≡ true)
IsKnown s (Builds d ps place fields) = Unit {0}
IsKnown s (Selects d ps c place field) = is_sort (λ n k. has_sort s n k || (is_in n ps && eqb k 0)) field ≡ true

-- what is tested before a change is made
abbrev pub IsAllowed : State → Change → Type 0
IsAllowed s (AddsName n x) = (is_taken s n ≡ false) × IsKnown s x
IsAllowed s (AddsSort d parameters) = Unit {0}
IsAllowed s (AddsAssertion e) = knows s e ≡ true
IsAllowed s AddsLevel = s.ended ≡ false
IsAllowed s Ends = Unit {0}

-- any change
abbrev pub Any : State → Change → Type 0
Any s x = Unit {0}

-- A command takes nothing away, and each change that it makes has the property in the state that it changes.
abbrev pub Adds : (State → Change → Type 0) → State → Command → Type 0
Adds A s (DeclareDatatype d ps cs) =
    ((u : State) (n : List ℕ) (place : ℕ) (fields : List Expression) → A u (AddsName n (Builds d ps place fields)))
    × ((u : State) (n c : List ℕ) (place : ℕ) (field : Expression) → A u (AddsName n (Selects d ps c place field)))
    × ((u : State) → A u (AddsSort d (length ps)))
Adds A s (DeclareConst n sort) = A s (AddsName n (Constant sort))
Adds A s (DefineFun n sort body) = A s (AddsName n (Defined sort body))
Adds A s (Assert e) = A s (AddsAssertion e)
Adds A s (DeclareFun f argument sort) = A s (AddsName f (Function argument sort))
Adds A s Push = A s AddsLevel
Adds A s Exit = A s Ends
Adds A s Reset = ⊥
Adds A s Pop = ⊥
Adds A s c = Unit {0}

-- So it is for all commands but `reset` and `pop` where each change has the property; only `push` adds a level.
pub adds_such : (A : State → Change → Type 0) (c : Command) → (c ≡ Reset → ⊥) → (c ≡ Pop → ⊥) → ((s : State) (x : Change) → (x ≡ AddsLevel → c ≡ Push) → A s x) → (s : State) → Adds A s c
adds_such A (DeclareDatatype d ps cs) r p f s = (λ u n place fields. f u _ (λ e. absurd cc), λ u n c place field. f u _ (λ e. absurd cc), λ u. f u _ (λ e. absurd cc))
adds_such A (DeclareConst n sort) r p f s = f s (AddsName n (Constant sort)) (λ e. absurd cc)
adds_such A (DefineFun n sort body) r p f s = f s (AddsName n (Defined sort body)) (λ e. absurd cc)
adds_such A (Assert e) r p f s = f s (AddsAssertion e) (λ q. absurd cc)
adds_such A (DeclareFun g argument sort) r p f s = f s (AddsName g (Function argument sort)) (λ e. absurd cc)
adds_such A Push r p f s = f s AddsLevel (λ e. refl)
adds_such A Exit r p f s = f s Ends (λ e. absurd cc)
adds_such A Reset r p f s = absurd (r refl)
adds_such A Pop r p f s = absurd (p refl)
adds_such A c r p f s = tt

-- ---- one command

-- Behind an `exit` a state stays as it is, and before it a command is obeyed.
pub step_is : (c : Command) (s t : State) → step c s ≡ Some t → ((s.ended ≡ true) × (Some s ≡ Some t)) ⊎ ((s.ended ≡ false) × (obey c s ≡ Some t))
step_is c s t h = if_either s.ended (Some s) (obey c s) t h

pub steps_to : (c : Command) (s t : State) → s.ended ≡ false → obey c s ≡ Some t → step c s ≡ Some t
steps_to c s t running e = cond-false s.ended (Some s) (obey c s) running ∙ e

-- A property of states that each change keeps.
module _ (A : State → Change → Type 0) (P : State → Type 0) (kept : (x : Change) (s : State) → A s x → IsAllowed s x → P s → P (changed x s)) where
  given : (s t : State) → Some s ≡ Some t → P s → P t
  given s t e h = subst P (some_is s t e) h

  declared : (n : List ℕ) (x : Entry) (s t : State) → A s (AddsName n x) → IsKnown s x → declare n x s ≡ Some t → P s → P t
  declared n x s t a k e h = let p = if_not (is_taken s n) (Some (with_name n x s)) t e in given (with_name n x s) t p.1 (kept (AddsName n x) s a (p.0, k) h)

  selectors_declared : (d : List ℕ) (ps : List (List ℕ)) (c : List ℕ) (place : ℕ) (xs : List (List ℕ × Expression)) (s t : State)
      → ((u : State) (n c : List ℕ) (place : ℕ) (field : Expression) → A u (AddsName n (Selects d ps c place field))) → declare_selectors d ps c place xs s ≡ Some t → P s → P t
  selectors_declared d ps c place [] s t a e h = given s t e h
  selectors_declared d ps c place (x ∷ xs) s t a e h =
      let y = Selects d ps c place x.1 in
      let p = if_so (is_sort (λ n k. has_sort s n k || (is_in n ps && eqb k 0)) x.1) (declare x.0 y s >>= declare_selectors d ps c (suc place) xs) t e in
      let q = bind_gives (declare x.0 y s) (declare_selectors d ps c (suc place) xs) t p.1 in
      selectors_declared d ps c (suc place) xs q.0 t a q.2 (declared x.0 y s q.0 (a s x.0 c place x.1) p.0 q.1 h)

  constructors_declared : (d : List ℕ) (ps : List (List ℕ)) (place : ℕ) (cs : List Constructor) (s t : State) → Adds A s (DeclareDatatype d ps cs) → declare_constructors d ps place cs s ≡ Some t → P s → P t
  constructors_declared d ps place [] s t a e h = given s t e h
  constructors_declared d ps place (c ∷ cs) s t a e h =
      let x = Builds d ps place (map (λ y. y.1) c.selectors) in
      let p = bind_gives (declare c.name x s) (λ u. declare_selectors d ps c.name 0 c.selectors u >>= declare_constructors d ps (suc place) cs) t e in
      let q = bind_gives (declare_selectors d ps c.name 0 c.selectors p.0) (declare_constructors d ps (suc place) cs) t p.2 in
      constructors_declared d ps (suc place) cs q.0 t a q.2
      (selectors_declared d ps c.name 0 c.selectors p.0 q.0 a.1 q.1 (declared c.name x s p.0 (a.0 s c.name place (map (λ y. y.1) c.selectors)) tt p.1 h))

  obeyed : (c : Command) (s t : State) → Adds A s c → s.ended ≡ false → obey c s ≡ Some t → P s → P t
  obeyed (DeclareDatatype d ps cs) s t a running e h =
      let p = if_so (is_new_datatype s d ps cs) (declare_constructors d ps 0 cs s >>= λ u. Some (with_sort d (length ps) u)) t e in
      let q = bind_gives (declare_constructors d ps 0 cs s) (λ u. Some (with_sort d (length ps) u)) t p.1 in
      given (with_sort d (length ps) q.0) t q.2 (kept (AddsSort d (length ps)) q.0 (a.2 q.0) tt (constructors_declared d ps 0 cs s q.0 a q.1 h))
  obeyed (DeclareConst n sort) s t a running e h = let p = if_so (is_sort (has_sort s) sort) (declare n (Constant sort) s) t e in declared n (Constant sort) s t a p.0 p.1 h
  obeyed (DefineFun n sort body) s t a running e h =
      let p = if_so (is_sort (has_sort s) sort && knows s body) (declare n (Defined sort body) s) t e in
      declared n (Defined sort body) s t a (and_parts (is_sort (has_sort s) sort) (knows s body) p.0) p.1 h
  obeyed (Assert x) s t a running e h = let p = if_so (knows s x) (Some (with_assertion x s)) t e in given (with_assertion x s) t p.1 (kept (AddsAssertion x) s a p.0 h)
  obeyed (DeclareFun f argument sort) s t a running e h =
      let p = if_so (is_sort (has_sort s) argument && is_sort (has_sort s) sort) (declare f (Function argument sort) s) t e in
      declared f (Function argument sort) s t a (and_parts (is_sort (has_sort s) argument) (is_sort (has_sort s) sort) p.0) p.1 h
  obeyed (SetLogic l) s t a running e h = given s t (if_so (is_simple_symbol l) (Some s) t e).1 h
  obeyed (SetOption o v) s t a running e h = given s t (if_so (is_simple_symbol o && is_attribute_value v) (Some s) t e).1 h
  obeyed CheckSat s t a running e h = given s t e h
  obeyed GetModel s t a running e h = given s t e h
  obeyed Push s t a running e h = given (with_level s) t e (kept AddsLevel s a running h)
  obeyed Exit s t a running e h = given (record s { ended = true }) t e (kept Ends s a tt h)
  obeyed Reset s t a running e h = absurd a
  obeyed Pop s t a running e h = absurd a

  -- A command that takes nothing away keeps it.
  pub stepped : (c : Command) (s t : State) → Adds A s c → step c s ≡ Some t → P s → P t
  stepped c s t a e h = elim (step_is c s t e) [ inl p ↦ given s t p.1 h | inr p ↦ obeyed c s t a p.0 p.1 h ]

-- ---- levels

-- A property that the first state has and that each change keeps: each command keeps it, with what a `pop` would give back.
module _ (A : State → Change → Type 0) (P : State → Type 0) (first : P start) (kept : (x : Change) (s : State) → A s x → IsAllowed s x → P s → P (changed x s)) where
  -- each state that pops would give back has it
  abbrev pub Below : List Level → Type 0
  Below [] = Unit {0}
  Below (l ∷ ls) = P (record { last = l; below = ls; ended = false }) × Below ls

  abbrev pub Deep : State → Type 0
  Deep s = P s × Below s.below

  kept_deep : (x : Change) (s : State) → A s x → IsAllowed s x → Deep s → Deep (changed x s)
  kept_deep AddsLevel s a running h = (kept AddsLevel s a running h.0, (subst P (ap (λ (b : Bool). record { last = s.last; below = s.below; ended = b }) running) h.0, h.1))
  kept_deep x s a allowed h = (kept x s a allowed h.0, h.1)

  popped : (s t : State) → s.ended ≡ false → (ls : List Level) → Below ls → without_level s ls ≡ Some t → Deep t
  popped s t running [] h e = absurd cc
  popped s t running (l ∷ ls) h e = subst Deep (some_is (record { last = l; below = ls; ended = false }) t (subst (λ (b : Bool). Some (record { last = l; below = ls; ended = b }) ≡ Some t) running e)) h

  -- Each command keeps it, `reset` and `pop` by themselves.
  pub stepped_deep : (c : Command) (s t : State) → ((c ≡ Reset → ⊥) → (c ≡ Pop → ⊥) → Adds A s c) → step c s ≡ Some t → Deep s → Deep t
  stepped_deep Reset s t a e h = elim (step_is Reset s t e) [ inl p ↦ subst Deep (some_is s t p.1) h | inr p ↦ subst Deep (some_is start t p.1) (first, tt) ]
  stepped_deep Pop s t a e h = elim (step_is Pop s t e) [ inl p ↦ subst Deep (some_is s t p.1) h | inr p ↦ popped s t p.0 s.below h.1 p.1 ]
  stepped_deep c s t a e h = stepped A Deep kept_deep c s t (a (λ q. cc) (λ q. cc)) e h

-- ---- lists of commands

-- A property of a state and of the commands that are left.
pub run_keeps : (R : List Command → State → Type 0) → ((c : Command) (cs : List Command) (s t : State) → step c s ≡ Some t → R (c ∷ cs) s → R cs t) → (cs : List Command) (s t : State) → run cs s ≡ Some t → R cs s → R [] t
run_keeps R one [] s t e h = subst (R []) (some_is s t e) h
run_keeps R one (c ∷ cs) s t e h = let p = bind_gives (step c s) (run cs) t e in run_keeps R one cs p.0 t p.2 (one c cs s p.0 p.1 h)

-- What the first state has and each change keeps, each script's state has.
pub script_has : (P : State → Type 0) → P start → ((x : Change) (s : State) → Any s x → IsAllowed s x → P s → P (changed x s)) → (text : List ℕ) (state : State) → Script text state → P state
script_has P first kept text state x = (run_keeps (λ cs s. Deep Any P first kept s) one x.commands start state x.runs (first, tt)).0
  where
    one : (c : Command) (cs : List Command) (s t : State) → step c s ≡ Some t → Deep Any P first kept s → Deep Any P first kept t
    one c cs s t e h = stepped_deep Any P first kept c s t (λ r p. adds_such Any c r p (λ u y q. tt) s) e h
