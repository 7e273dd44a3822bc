-- What tokens make of open lists, and why they are refused.
use Rattle.std.proofs.Common.{◌≡◌, ℕ, ◌+◌, ◌<◌, ◌≤◌, List, [], ◌∷◌, ◌++◌, refl, sym, ap, ◌∙◌, subst, append_assoc, arith, length, length-append, Option, Some, None}
use Rattle.std.specs.Prelude.{max}
use Rattle.std.specs.List.{flat_map}
use Rattle.std.proofs.lemmas.List.{append-nil}
use Rattle.std.proofs.lemmas.List.Concat.{flat_map-append}
use Rattle.law_texts.specs.Lexicon.{Name, Piece, Space, Comment, Open, Close, Quoted, Binary, Hexadecimal, Numeral, Symbol, Token, Begin, End, Word, token}
use Rattle.law_texts.specs.Reading.{Expression, Leaf, Node, Expressions, Nil, Cons, expressions, brackets, deepest, inside, nesting}
use Rattle.smt_sexpr.specs.OpenLists.{Adds, IsNext, IsStepFault, levels}
use Rattle.smt_sexpr.specs.Pieces.{StandsFor}
use Rattle.smt_sexpr.specs.Refusals.{open_list, open_lists}
use Rattle.smt_sexpr.specs.View.{plain, plains, lists_in, lexeme_nesting, lexeme_tokens}
use Rattle.smt_sexpr.specs.declared.error.SExprParseError.{SExprParseError}
use Rattle.smt_sexpr.specs.declared.error.SExprParseError.TheVariants.{Memory, UnclosedSExpr, TooDeep}
use Rattle.smt_sexpr.specs.declared.expression.SExpr.{SExpr}
use Rattle.smt_sexpr.specs.declared.expression.SExprs.{SExprs}
use Rattle.smt_sexpr.specs.declared.token.Lexeme.{Lexeme}
use Rattle.smt_sexpr.specs.declared.token.Lexeme.TheVariants.{Blank, Open as Opening, Close as Closing, Atom as Atomic}

-- ---- tokens

pub inside_is : (es : List Expression) → inside (expressions es) ≡ flat_map brackets es
inside_is [] = refl
inside_is (e ∷ es) = ap (λ v. brackets e ++ v) (inside_is es)

pub node_is : (es : List Expression) → brackets (Node (expressions es)) ≡ open_list es ++ End ∷ []
node_is es = ap (λ (v : List Token). Begin ∷ (v ++ End ∷ [])) (inside_is es)

pub lists_push : (lists : List (List Expression)) (es : List Expression) → open_lists (lists ++ es ∷ []) ≡ open_lists lists ++ open_list es
lists_push lists es = flat_map-append open_list lists (es ∷ []) ∙ ap (λ v. open_lists lists ++ v) (append-nil (open_list es))

pub list_push : (es : List Expression) (e : Expression) → open_list (es ++ e ∷ []) ≡ open_list es ++ brackets e
list_push es e = ap (λ (v : List Token). Begin ∷ v) (flat_map-append brackets es (e ∷ []) ∙ ap (λ v. flat_map brackets es ++ v) (append-nil (brackets e)))

-- ---- levels

pub deepest_push : (es : List Expression) (e : Expression) → deepest (expressions (es ++ e ∷ [])) ≡ max (deepest (expressions es)) (nesting e)
deepest_push [] e = omega arith
deepest_push (f ∷ es) e = let h = deepest_push es e in omega arith

pub levels_push : (lists : List (List Expression)) (es : List Expression) → levels (lists ++ es ∷ []) ≡ max (levels lists) (length lists + 1 + deepest (expressions es))
levels_push [] es = omega arith
levels_push (fs ∷ lists) es = let h = levels_push lists es in omega arith

pub length_levels : (lists : List (List Expression)) → length lists ≤ levels lists
length_levels [] = omega arith
length_levels (es ∷ lists) = let h = length_levels lists in omega arith

-- ---- one expression more

pub added : (e : Expression) (old new : List (List Expression)) (depth : ℕ) → Adds e old new → levels old ≤ depth → nesting e + length old ≤ depth → (open_lists old ++ brackets e ≡ open_lists new) × (levels new ≤ depth)
added e old new depth a l n = (
  ap (λ v. open_lists v ++ brackets e) a.before
      ∙ ap (λ v. v ++ brackets e) (lists_push a.outer a.inner)
      ∙ append_assoc (open_lists a.outer) (open_list a.inner) (brackets e)
      ∙ ap (λ v. open_lists a.outer ++ v) (sym (list_push a.inner e))
      ∙ sym (lists_push a.outer (a.inner ++ e ∷ []))
      ∙ ap open_lists (sym a.after),
  (let before = ap levels a.before ∙ levels_push a.outer a.inner in
      let after = ap levels a.after ∙ levels_push a.outer (a.inner ++ e ∷ []) in
      let deeper = deepest_push a.inner e in
      let count = ap length a.before ∙ length-append a.outer (a.inner ∷ []) in
      omega arith),
)

-- a list more
pub begun : (old new : List (List Expression)) (depth : ℕ) → new ≡ old ++ [] ∷ [] → levels old ≤ depth → length old < depth → (open_lists old ++ Begin ∷ [] ≡ open_lists new) × (levels new ≤ depth)
begun old new depth e l n = (
  sym (ap open_lists e ∙ lists_push old []),
  (let after = ap levels e ∙ levels_push old [] in omega arith),
)

pub too_deep : (old : List (List Expression)) (depth : ℕ) → depth ≤ length old → IsStepFault TooDeep depth (open_lists old ++ Begin ∷ [])
too_deep old depth h = λ more. (old ++ [] ∷ [], more, ap (λ v. v ++ more) (sym (lists_push old [])), (let one : List (List Expression) = [] ∷ [] in let l = length-append old one in omega arith))

-- a list less
pub ended : (old outer : List (List Expression)) (es : List Expression) (depth : ℕ) → old ≡ outer ++ es ∷ [] → levels old ≤ depth → (levels outer ≤ depth) × (nesting (Node (expressions es)) + length outer ≤ depth) × (open_lists old ++ End ∷ [] ≡ open_lists outer ++ brackets (Node (expressions es)))
ended old outer es depth e l =
    let before = ap levels e ∙ levels_push outer es in (
      omega arith,
      omega arith,
      ap (λ v. open_lists v ++ End ∷ []) e
          ∙ ap (λ v. v ++ End ∷ []) (lists_push outer es)
          ∙ append_assoc (open_lists outer) (open_list es) (End ∷ [])
          ∙ ap (λ v. open_lists outer ++ v) (sym (node_is es)),
    )

pub next_from : (o : Option SExpr) (depth : ℕ) (old old' new : List (List Expression)) (ts ts' : List Token) → open_lists old ++ ts ≡ open_lists old' ++ ts' → IsNext o depth old' ts' new → IsNext o depth old ts new
next_from None depth old old' new ts ts' e n = (e ∙ n.0, n.1)
next_from (Some x) depth old old' new ts ts' e n = (e ∙ n.0, n.1)

pub unclosed : (old : List (List Expression)) (depth : ℕ) → old ≡ [] → IsStepFault UnclosedSExpr depth (open_lists old ++ End ∷ [])
unclosed old depth e = λ more. (more, ap (λ v. (open_lists v ++ End ∷ []) ++ more) e)

pub memory_fault : (e : SExprParseError) (depth : ℕ) (ts : List Token) → e ≡ Memory → IsStepFault e depth ts
memory_fault e depth ts h = subst (λ v. IsStepFault v depth ts) (sym h) tt

-- ---- where an expression could go on

unfinished_from : (es : List Expression) (lists : List (List Expression)) → (e : Expression) × (t : Token) × (more : List Token) × (open_lists (es ∷ lists) ++ t ∷ more ≡ brackets e) × (nesting e ≤ levels (es ∷ lists))
unfinished_from es [] = (Node (expressions es), End, [], ap (λ v. v ++ End ∷ []) (append-nil (open_list es)) ∙ sym (node_is es), omega arith)
unfinished_from es (fs ∷ lists) =
    let r = unfinished_from fs lists in
    let deeper = deepest_push es r.0 in
    let within = r.4 in (
      Node (expressions (es ++ r.0 ∷ [])),
      r.1,
      r.2 ++ End ∷ [],
      append_assoc (open_list es) (open_lists (fs ∷ lists)) (r.1 ∷ (r.2 ++ End ∷ []))
          ∙ ap (λ v. open_list es ++ v) (sym (append_assoc (open_lists (fs ∷ lists)) (r.1 ∷ r.2) (End ∷ [])) ∙ ap (λ v. v ++ End ∷ []) r.3)
          ∙ sym (append_assoc (open_list es) (brackets r.0) (End ∷ []))
          ∙ ap (λ v. v ++ End ∷ []) (sym (list_push es r.0))
          ∙ sym (node_is (es ++ r.0 ∷ [])),
      omega arith,
    )

pub unfinished : (lists : List (List Expression)) (depth : ℕ) → levels lists ≤ depth → (e : Expression) × (t : Token) × (more : List Token) × (open_lists lists ++ t ∷ more ≡ brackets e) × (nesting e ≤ depth)
unfinished [] depth h = (Leaf (Name []), Word (Name []), [], refl, omega arith)
unfinished (es ∷ lists) depth h = let r = unfinished_from es lists in let within = r.4 in (r.0, r.1, r.2, r.3, omega arith)

-- ---- an atom is no list

none_inside : (es : Expressions) → [] ≡ inside es ++ End ∷ [] → ⊥
none_inside Nil k = cc
none_inside (Cons (Leaf a) fs) k = cc
none_inside (Cons (Node gs) fs) k = cc

behind_one : (t : Token) (us : List Token) → t ∷ [] ≡ Begin ∷ us → [] ≡ us
behind_one t us k = cc

no_list : (x : Piece) (es : Expressions) → token x ≡ Begin ∷ (inside es ++ End ∷ []) → ⊥
no_list (Space b) es k = cc
no_list (Comment t) es k = cc
no_list Open es k = none_inside es (behind_one Begin (inside es ++ End ∷ []) k)
no_list Close es k = none_inside es (behind_one End (inside es ++ End ∷ []) k)
no_list (Quoted t) es k = cc
no_list (Binary t) es k = cc
no_list (Hexadecimal t) es k = cc
no_list (Numeral t) es k = cc
no_list (Symbol t) es k = cc

pub atom_level : (x : Piece) (e : Expression) → token x ≡ brackets e → nesting e ≡ 0
atom_level x (Leaf a) h = refl
atom_level x (Node es) h = absurd (no_list x es h)

pub atomic : (l : Lexeme) (bytes rest : List ℕ) → StandsFor (lexeme_tokens l) bytes rest → lexeme_nesting l ≡ 0
atomic Blank bytes rest s = refl
atomic Opening bytes rest s = refl
atomic Closing bytes rest s = refl
atomic (Atomic e) bytes rest s = atom_level s.piece (plain e) s.tokens_are

-- ---- lists of the program

pub brackets_some : (e : Expression) → (t : Token) × (ts : List Token) × (brackets e ≡ t ∷ ts)
brackets_some (Leaf a) = (Word a, [], refl)
brackets_some (Node es) = (Begin, inside es ++ End ∷ [], refl)

pub atom_some : (l : Lexeme) (e : SExpr) → l ≡ Atomic e → (t : Token) × (ts : List Token) × (lexeme_tokens l ≡ t ∷ ts)
atom_some l e h = let b = brackets_some (plain e) in (b.0, b.1, ap lexeme_tokens h ∙ b.2)

pub count_is : (xs : List SExprs) → length (lists_in xs) ≡ length xs
count_is [] = refl
count_is (x ∷ xs) = let h = count_is xs in omega arith

map_push : (xs : List SExprs) (x : SExprs) → lists_in (xs ++ x ∷ []) ≡ lists_in xs ++ plains x ∷ []
map_push [] x = refl
map_push (y ∷ ys) x = ap (λ (v : List (List Expression)). plains y ∷ v) (map_push ys x)

pub lists_more : (xs ys : List SExprs) (x : SExprs) (es : List Expression) → ys ≡ xs ++ x ∷ [] → plains x ≡ es → lists_in ys ≡ lists_in xs ++ es ∷ []
lists_more xs ys x es e f = ap lists_in e ∙ map_push xs x ∙ ap (λ (v : List Expression). lists_in xs ++ v ∷ []) f

pub lists_none : (xs : List SExprs) → length xs ≡ 0 → lists_in xs ≡ []
lists_none [] h = refl
lists_none (x ∷ xs) h = absurd (omega arith)

pub whole_next : (e item : SExpr) (depth : ℕ) (old new : List (List Expression)) → e ≡ item → old ≡ [] → nesting (plain item) + length old ≤ depth → IsNext (Some e) depth old (brackets (plain item)) new
whole_next e item depth old new same none n = (
  ap (λ v. open_lists v ++ brackets (plain item)) none ∙ ap (λ v. brackets (plain v)) (sym same),
  (let deep : nesting (plain e) ≡ nesting (plain item) = ap (λ v. nesting (plain v)) same in omega arith),
)
