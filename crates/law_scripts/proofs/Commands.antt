-- Expressions state one list of commands, so a script comes to one state.
use Rattle.std.proofs.Common.{ap₂, ◌≡◌, ℕ, List, [], ◌∷◌, ◌++◌, refl, sym, ap, ◌∙◌, map}
use Rattle.std.proofs.lemmas.Bool.{eq-eqb, false≢true}
use Rattle.std.proofs.lemmas.List.{append_cancel_left}
use Rattle.std.specs.Prelude.{codes, bytes_eq, cond}
use Rattle.law_texts.specs.Reading.{Expression, expressions}
use Rattle.law_scripts.specs.Script.{Command, DeclareDatatype, DeclareConst, DefineFun, Assert, DeclareFun, SetLogic, SetOption, CheckSat, GetModel, Reset, Exit, Push, Pop, Constructor, keyword, operands, constructor, datatype, name, group, stated, Holds, Script, State, run, start}
use Rattle.law_texts.proofs.Trees.{one_reading}
use Rattle.law_scripts.proofs.Results.{some_is}

one_group : (es fs : List Expression) → expressions es ≡ expressions fs → es ≡ fs
one_group [] [] h = refl
one_group [] (f ∷ fs) h = absurd cc
one_group (e ∷ es) [] h = absurd cc
one_group (e ∷ es) (f ∷ fs) h = let t : e ≡ f = cc in let u : expressions es ≡ expressions fs = cc in ap₂ (λ (a : Expression) (v : List Expression). a ∷ v) t (one_group es fs u)

one_map : {X : Type 0} (write : X → Expression) → ((x y : X) → write x ≡ write y → x ≡ y) → (xs ys : List X) → map write xs ≡ map write ys → xs ≡ ys
one_map write one [] [] h = refl
one_map write one [] (y ∷ ys) h = absurd cc
one_map write one (x ∷ xs) [] h = absurd cc
one_map {X} write one (x ∷ xs) (y ∷ ys) h =
    let t : write x ≡ write y = cc in
    let u : map write xs ≡ map write ys = cc in
    ap₂ (λ (a : X) (v : List X). a ∷ v) (one x y t) (one_map write one xs ys u)

one_name : (m n : List ℕ) → name m ≡ name n → m ≡ n
one_name m n h = cc

one_selector : (s t : List ℕ × Expression) → group (name s.0 ∷ s.1 ∷ []) ≡ group (name t.0 ∷ t.1 ∷ []) → s ≡ t
one_selector s t h = let e : s.0 ≡ t.0 = cc in let f : s.1 ≡ t.1 = cc in ap₂ (λ (a : List ℕ) (b : Expression). (a, b)) e f

one_constructor : (c d : Constructor) → constructor c ≡ constructor d → c ≡ d
one_constructor c d h =
    let e : c.name ≡ d.name = cc in
    let f : expressions (map (λ s. group (name s.0 ∷ s.1 ∷ [])) c.selectors) ≡ expressions (map (λ s. group (name s.0 ∷ s.1 ∷ [])) d.selectors) = cc in
    let g = one_map (λ s. group (name s.0 ∷ s.1 ∷ [])) one_selector c.selectors d.selectors (one_group _ _ f) in
    ap₂ (λ (a : List ℕ) (b : List (List ℕ × Expression)). record { name = a; selectors = b }) e g

one_datatype : (ps qs : List (List ℕ)) (cs ds : List Constructor) → datatype ps cs ≡ datatype qs ds → (ps ≡ qs) × (cs ≡ ds)
one_datatype [] [] cs ds h = (refl, one_map constructor one_constructor cs ds (one_group (map constructor cs) (map constructor ds) cc))
one_datatype [] (q ∷ qs) [] ds h = absurd cc
one_datatype [] (q ∷ qs) (c ∷ cs) ds h = absurd cc
one_datatype (p ∷ ps) [] cs [] h = absurd cc
one_datatype (p ∷ ps) [] cs (d ∷ ds) h = absurd cc
one_datatype (p ∷ ps) (q ∷ qs) cs ds h =
    let e : expressions (map name (p ∷ ps)) ≡ expressions (map name (q ∷ qs)) = cc in
    let f : expressions (map constructor cs) ≡ expressions (map constructor ds) = cc in
    (one_map name one_name (p ∷ ps) (q ∷ qs) (one_group (map name (p ∷ ps)) (map name (q ∷ qs)) e), one_map constructor one_constructor cs ds (one_group (map constructor cs) (map constructor ds) f))

abbrev pub number : Command → ℕ
number (DeclareDatatype d ps cs) = 0
number (DeclareConst c sort) = 1
number (DefineFun f sort body) = 2
number (Assert e) = 3
number (DeclareFun f argument sort) = 4
number (SetLogic l) = 5
number (SetOption o v) = 6
number CheckSat = 7
number GetModel = 8
number Reset = 9
number Exit = 10
number Push = 11
number Pop = 12

abbrev pub number_from : List ℕ → ℕ
number_from word = cond (bytes_eq word (codes "declare-datatype")) 0 (cond (bytes_eq word (codes "declare-const")) 1 (cond (bytes_eq word (codes "define-fun")) 2 (cond (bytes_eq word (codes "assert")) 3 (cond (bytes_eq word (codes "declare-fun")) 4 (cond (bytes_eq word (codes "set-logic")) 5 (cond (bytes_eq word (codes "set-option")) 6 (cond (bytes_eq word (codes "check-sat")) 7 (cond (bytes_eq word (codes "get-model")) 8 (cond (bytes_eq word (codes "reset")) 9 (cond (bytes_eq word (codes "exit")) 10 (cond (bytes_eq word (codes "push")) 11 12)))))))))))

pub number_is : (c : Command) → number_from (keyword c) ≡ number c
number_is (DeclareDatatype d ps cs) = refl
number_is (DeclareConst c sort) = refl
number_is (DefineFun f sort body) = refl
number_is (Assert e) = refl
number_is (DeclareFun f argument sort) = refl
number_is (SetLogic l) = refl
number_is (SetOption o v) = refl
number_is CheckSat = refl
number_is GetModel = refl
number_is Reset = refl
number_is Exit = refl
number_is Push = refl
number_is Pop = refl

same_operands : (c d : Command) → number c ≡ number d → operands c ≡ operands d → c ≡ d
same_operands (DeclareDatatype a ps cs) (DeclareDatatype b qs ds) n h =
    let e : a ≡ b = cc in
    let f : datatype ps cs ≡ datatype qs ds = cc in
    let g = one_datatype ps qs cs ds f in
    ap₂ (λ (x : List ℕ) (y : List (List ℕ) × List Constructor). DeclareDatatype x y.0 y.1) e (ap₂ (λ (x : List (List ℕ)) (y : List Constructor). (x, y)) g.0 g.1)
same_operands (DeclareConst a s) (DeclareConst b t) n h = cc
same_operands (DefineFun a s x) (DefineFun b t y) n h = cc
same_operands (Assert x) (Assert y) n h = cc
same_operands (DeclareFun f a s) (DeclareFun g b t) n h = cc
same_operands (SetLogic l) (SetLogic m) n h = cc
same_operands (SetOption o v) (SetOption p w) n h =
    let e : codes ":" ++ o ≡ codes ":" ++ p = cc in
    let f : v ≡ w = cc in
    ap₂ SetOption (append_cancel_left (codes ":") o p e) f
same_operands CheckSat CheckSat n h = refl
same_operands GetModel GetModel n h = refl
same_operands Reset Reset n h = refl
same_operands Exit Exit n h = refl
same_operands Push Push n h = refl
same_operands Pop Pop n h = refl
same_operands c d n h = absurd (false≢true (eq-eqb (number c) (number d) n))

pub group_is : (m n : List ℕ) (es fs : List Expression) → group (name m ∷ es) ≡ group (name n ∷ fs) → (m ≡ n) × (es ≡ fs)
group_is m n es fs h = (cc, one_group es fs cc)

pub one_statement : (c d : Command) → stated c ≡ stated d → c ≡ d
one_statement c d h =
    let g = group_is (keyword c) (keyword d) (operands c) (operands d) h in
    same_operands c d (sym (number_is c) ∙ ap number_from g.0 ∙ number_is d) g.1

pub one_list_of_commands : (bytes : List ℕ) (cs ds : List Command) → Holds bytes cs → Holds bytes ds → cs ≡ ds
one_list_of_commands bytes cs ds p q = one_map stated one_statement cs ds (one_reading bytes (map stated cs) (map stated ds) p.reads q.reads)

-- A script comes to one state.
pub one_state : (bytes : List ℕ) (s t : State) → Script bytes s → Script bytes t → s ≡ t
one_state bytes s t p q =
    some_is s t (sym p.runs ∙ ap (λ (cs : List Command). run cs start) (one_list_of_commands bytes p.commands q.commands p.holds q.holds) ∙ q.runs)
