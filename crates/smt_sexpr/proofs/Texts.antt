-- A text as far as it is read: which expression it is, or why it is refused.
use Rattle.std.proofs.Common.{inl, inr, ◌⊎◌, ◌≡◌, ℕ, ◌≤◌, Bool, true, false, List, [], ◌∷◌, ◌++◌, refl, sym, ap, ◌∙◌, subst, arith, None}
use Rattle.std.specs.List.{list_all}
use Rattle.std.proofs.lemmas.List.{append-nil}
use Rattle.law_texts.specs.Lexicon.{Piece, Token, tokens}
use Rattle.law_texts.specs.Reading.{Expression, brackets, nesting}
use Rattle.law_texts.specs.Tokens.{IsCut, AreHeld, is_held, HasTokens, IsReadWithin, Spans}
use Rattle.law_texts.proofs.Spans.{cut_join, cut_into, goes_on, held_join, tokens_join}
use Rattle.law_texts.proofs.Unique.{one_cut}
use Rattle.smt_sexpr.specs.OpenLists.{IsNext, IsOpenAt, IsScanned, IsStepFault}
use Rattle.smt_sexpr.specs.Pieces.{StandsFor}
use Rattle.smt_sexpr.specs.Refusals.{HasTokenFault, IsBracketFault, IsRefused, IsTokenFault, open_lists}
use Rattle.smt_sexpr.specs.declared.error.SExprParseError.{SExprParseError}
use Rattle.smt_sexpr.specs.declared.error.SExprParseError.TheVariants.{UnexpectedEnd, Utf8Error, StringParseError, ParseIntError, UnclosedSExpr, TrailingTokens, IntegerOverflow, ZeroWidthBitVec, TooDeep, Memory}
use Rattle.smt_sexpr.proofs.Cuts.{cut_more, tokens_more, held_more, fault_behind}
use Rattle.smt_sexpr.proofs.Excluded.{behind, front_excluded, token_excluded}
use Rattle.smt_sexpr.proofs.TokenLists.{unfinished}

-- the bytes up to the rest are cut into pieces that are held, with these tokens
pub record Reaches (bytes rest : List ℕ) (ts : List Token) : Type 0 where
  pub pieces : List Piece
  pub cut : IsCut pieces bytes rest
  pub held : AreHeld (tokens pieces)
  pub tokens_are : tokens pieces ≡ ts

pub spanned : (bytes rest : List ℕ) (ts us : List Token) → Reaches bytes rest ts → ts ≡ us → Spans bytes us rest
spanned bytes rest ts us r e = record {
  pieces = r.pieces;
  cut = r.cut;
  tokens_are = r.tokens_are ∙ e;
  held = ap (list_all is_held) (sym (r.tokens_are ∙ e)) ∙ r.held;
}

pub reached : (bytes rest : List ℕ) (ts : List Token) → Spans bytes ts rest → Reaches bytes rest ts
reached bytes rest ts s = record {
  pieces = s.pieces;
  cut = s.cut;
  held = ap (list_all is_held) s.tokens_are ∙ s.held;
  tokens_are = s.tokens_are;
}

pub one_piece : (bytes rest after : List ℕ) (depth : ℕ) (lists : List (List Expression)) (ts : List Token) → IsOpenAt bytes rest depth lists → StandsFor ts rest after → Reaches bytes after (open_lists lists ++ ts)
one_piece bytes rest after depth lists ts o f = record {
  pieces = o.pieces ++ f.piece ∷ [];
  cut = cut_more o.pieces f.piece bytes rest after o.cut f.first;
  held = held_more o.pieces f.piece ts f.tokens_are o.held f.held;
  tokens_are = tokens_more o.pieces f.piece ts f.tokens_are ∙ ap (λ v. v ++ ts) o.tokens_are;
}

to_end : (bytes rest : List ℕ) (ts us : List Token) (blank : Bool) → Reaches bytes rest ts → (s : IsScanned blank rest []) → tokens s.pieces ≡ us → Reaches bytes [] (ts ++ us)
to_end bytes rest ts us blank r s e = record {
  pieces = r.pieces ++ s.pieces;
  cut = cut_join r.pieces s.pieces bytes rest [] r.cut s.cut;
  held = ap (list_all is_held) (tokens_join r.pieces s.pieces) ∙ held_join (tokens r.pieces) (tokens s.pieces) r.held s.held;
  tokens_are = tokens_join r.pieces s.pieces ∙ ap (λ v. v ++ tokens s.pieces) r.tokens_are ∙ ap (λ v. ts ++ v) e;
}

pub opened_none : (bytes : List ℕ) (depth : ℕ) → IsOpenAt bytes bytes depth []
opened_none bytes depth = record { pieces = []; cut = refl; held = refl; tokens_are = refl; shallow = omega arith }

pub opened_more : (bytes rest after : List ℕ) (depth : ℕ) (old new : List (List Expression)) (ts : List Token) → IsOpenAt bytes rest depth old → StandsFor ts rest after → IsNext None depth old ts new → IsOpenAt bytes after depth new
opened_more bytes rest after depth old new ts o f n =
    let r = one_piece bytes rest after depth old ts o f in
    record { pieces = r.pieces; cut = r.cut; held = r.held; tokens_are = r.tokens_are ∙ n.0; shallow = n.1 }

-- where nothing follows a whole expression, the text is that expression
pub whole_read : (bytes rest : List ℕ) (depth : ℕ) (e : Expression) (ts : List Token) → Reaches bytes rest ts → ts ≡ brackets e → nesting e ≤ depth → IsScanned true rest [] → IsReadWithin bytes depth e
whole_read bytes rest depth e ts r same n s =
    let all = to_end bytes rest ts [] true r s (s.none refl) in
    let are : tokens all.pieces ≡ brackets e ++ [] = all.tokens_are ∙ ap (λ v. v ++ []) same in
    let c = cut_into all.pieces bytes all.cut in
    record {
      reads = record { pieces = all.pieces; cut = record { spelled = c.0; longest = c.1 }; tokens_are = are };
      held = ap (list_all is_held) (sym (are ∙ append-nil (brackets e))) ∙ all.held;
      shallow = n;
    }

no_memory : (depth : ℕ) (bytes : List ℕ) → IsRefused Memory depth bytes
no_memory depth bytes = inl (record { pieces = []; rest = bytes; cut = refl; held = refl; at_rest = tt })

pub token_refused : (bytes rest : List ℕ) (depth : ℕ) (lists : List (List Expression)) (e : SExprParseError) → IsOpenAt bytes rest depth lists → IsTokenFault e rest → IsRefused e depth bytes
token_refused bytes rest depth lists e o f = inl (record { pieces = o.pieces; rest = rest; cut = o.cut; held = o.held; at_rest = f })

-- where a token follows it, it trails
pub trailing : (bytes rest : List ℕ) (depth : ℕ) (x : Expression) (ts : List Token) (e : SExprParseError) → Reaches bytes rest ts → ts ≡ brackets x → nesting x ≤ depth → HasTokenFault e rest ⊎ ((e ≡ TrailingTokens) × IsScanned false rest []) → IsRefused e depth bytes
trailing bytes rest depth x ts e r same n (inl f) = inl (fault_behind r.pieces bytes rest e r.cut r.held f)
trailing bytes rest depth x ts e r same n (inr p) =
    let o = p.1.some refl in
    let all = to_end bytes rest ts (o.0 ∷ o.1) false r p.1 o.2 in
    subst (λ v. IsRefused v depth bytes) (sym p.0) (inr (record {
      pieces = all.pieces;
      cut = all.cut;
      held = all.held;
      of_tokens = (x, o.0, o.1, all.tokens_are ∙ ap (λ v. v ++ o.0 ∷ o.1) same, n);
    }))

step_fault : (depth : ℕ) (e : SExprParseError) (ts more : List Token) → IsStepFault e depth ts → (e ≡ Memory) ⊎ ((e ≡ TrailingTokens → ⊥) × IsBracketFault e depth (ts ++ more))
step_fault depth UnexpectedEnd ts more f = inr (λ h. cc, f more)
step_fault depth Utf8Error ts more f = inr (λ h. cc, f more)
step_fault depth (StringParseError raw) ts more f = inr (λ h. cc, f more)
step_fault depth (ParseIntError x) ts more f = inr (λ h. cc, f more)
step_fault depth UnclosedSExpr ts more f = inr (λ h. cc, f more)
step_fault depth TrailingTokens ts more f = absurd f
step_fault depth IntegerOverflow ts more f = inr (λ h. cc, f more)
step_fault depth ZeroWidthBitVec ts more f = inr (λ h. cc, f more)
step_fault depth TooDeep ts more f = inr (λ h. cc, f more)
step_fault depth Memory ts more f = inl refl

-- a bracket is refused unless a token's fault follows
pub bracket_refused : (bytes rest : List ℕ) (depth : ℕ) (ts : List Token) (fault e : SExprParseError) → Reaches bytes rest ts → IsStepFault fault depth ts → HasTokenFault e rest ⊎ ((e ≡ fault) × ((blank : Bool) × IsScanned blank rest [])) → IsRefused e depth bytes
bracket_refused bytes rest depth ts fault e r f (inl g) = inl (fault_behind r.pieces bytes rest e r.cut r.held g)
bracket_refused bytes rest depth ts fault e r f (inr p) =
    let s = p.1.1 in
    let all = to_end bytes rest ts (tokens s.pieces) p.1.0 r s refl in
    subst (λ v. IsRefused v depth bytes) (sym p.0) (which (step_fault depth fault ts (tokens s.pieces) f) all)
  where
    which : {us : List Token} → (fault ≡ Memory) ⊎ ((fault ≡ TrailingTokens → ⊥) × IsBracketFault fault depth us) → Reaches bytes [] us → IsRefused fault depth bytes
    which (inl h) all = subst (λ v. IsRefused v depth bytes) (sym h) (no_memory depth bytes)
    which (inr h) all = inr (record {
      pieces = all.pieces;
      cut = all.cut;
      held = all.held;
      of_tokens = subst (λ v. IsBracketFault fault depth v) (sym all.tokens_are) h.1;
    })

-- where the text ends before an expression does
pub unended : (bytes rest : List ℕ) (depth : ℕ) (lists : List (List Expression)) → IsOpenAt bytes rest depth lists → rest ≡ [] → IsRefused UnexpectedEnd depth bytes
unended bytes rest depth lists o e =
    let u = unfinished lists depth o.shallow in
    inr (record {
      pieces = o.pieces;
      cut = subst (λ v. IsCut o.pieces bytes v) e o.cut;
      held = o.held;
      of_tokens = (u.0, u.1, u.2, ap (λ v. v ++ u.1 ∷ u.2) o.tokens_are ∙ u.3, u.4);
    })

-- ---- where an expression stands at the front

pub no_token_fault : (fault : SExprParseError) (bytes : List ℕ) (ts : List Token) → HasTokens bytes ts → HasTokenFault fault bytes → fault ≡ Memory
no_token_fault fault bytes ts h f =
    let b = behind f.pieces h.pieces bytes f.rest f.cut h.cut (ap (list_all is_held) h.tokens_are ∙ h.held) in
    token_excluded fault f.rest b.0 b.1 b.2 f.at_rest

no_bracket_fault : (fault : SExprParseError) (depth : ℕ) (bytes rest : List ℕ) (ts us : List Token) (e : Expression) → HasTokens bytes (brackets e ++ us) → nesting e ≤ depth → Spans bytes ts rest → IsStepFault fault depth ts → fault ≡ Memory
no_bracket_fault fault depth bytes rest ts us e h n s f =
    let g = goes_on bytes rest (brackets e ++ us) ts h s in
    elim (step_fault depth fault ts g.others f) [
      | inl m ↦ m
      | inr b ↦ absurd (front_excluded fault depth (ts ++ g.others) e us b.0 b.1 (sym g.whole) n)
    ]

-- what is refused behind a step
pub only_memory : (fault e : SExprParseError) (depth : ℕ) (bytes rest : List ℕ) (ts us : List Token) (x : Expression) → HasTokens bytes (brackets x ++ us) → nesting x ≤ depth → Reaches bytes rest ts → IsStepFault fault depth ts → HasTokenFault e rest ⊎ ((e ≡ fault) × ((blank : Bool) × IsScanned blank rest [])) → e ≡ Memory
only_memory fault e depth bytes rest ts us x h n r f (inl t) = no_token_fault e bytes (brackets x ++ us) h (fault_behind r.pieces bytes rest e r.cut r.held t)
only_memory fault e depth bytes rest ts us x h n r f (inr p) = p.0 ∙ no_bracket_fault fault depth bytes rest ts us x h n (spanned bytes rest ts ts r refl) f

pub no_token_at : (fault : SExprParseError) (depth : ℕ) (bytes rest : List ℕ) (lists : List (List Expression)) (ts : List Token) → HasTokens bytes ts → IsOpenAt bytes rest depth lists → IsTokenFault fault rest → fault ≡ Memory
no_token_at fault depth bytes rest lists ts h o f = no_token_fault fault bytes ts h (record { pieces = o.pieces; rest = rest; cut = o.cut; held = o.held; at_rest = f })

-- a text that begins with an expression doesn't end before it
pub not_unended : (bytes rest : List ℕ) (depth : ℕ) (lists : List (List Expression)) (x : Expression) (us : List Token) → HasTokens bytes (brackets x ++ us) → nesting x ≤ depth → IsOpenAt bytes rest depth lists → rest ≡ [] → ⊥
not_unended bytes rest depth lists x us h n o e =
    let u = unfinished lists depth o.shallow in
    let c = cut_into o.pieces bytes (subst (λ v. IsCut o.pieces bytes v) e o.cut) in
    let d = cut_into h.pieces bytes h.cut in
    let same : open_lists lists ≡ brackets x ++ us = sym o.tokens_are ∙ ap tokens (one_cut o.pieces h.pieces c.1 d.1 (sym c.0 ∙ d.0)) ∙ h.tokens_are in
    front_excluded UnexpectedEnd depth (open_lists lists) x us (λ k. cc) (u.0, u.1, u.2, u.3, u.4) same n
