-- The bytes of entries.
use Rattle.std.proofs.Common.{◌≡◌, ℕ, List, [], ◌++◌, refl, sym, ap, ◌∙◌, append-nil}
use Rattle.law_texts.specs.Reading.{Expression}
use Rattle.law_lines.specs.Line.{DefineFun, DeclareConst, Comment, spelled_line, spelled_lines}
use Rattle.law_texts.specs.Quoting.{quoted_id}
use Rattle.law_lines.specs.Spelling.{spelled}
use Rattle.law_texts.specs.LineTexts.{comment_text, declare_const_text, define_fun_text}
use Rattle.smt_spelling.specs.Entries.{entry_bytes, entry_lines, PlainEntry, ByBody, ByConstant, ByName, SaysEntry}
use Rattle.smt_spelling.specs.declared.entry.Entry.{Entry}
use Rattle.smt_spelling.specs.declared.entry.Entry.TheVariants.{Body, Constant, Name}

-- the bytes of an entry are its lines
pub entry_spelled : (p : PlainEntry) (entry : Entry) (name n sort : List ℕ) (e : Expression) → SaysEntry p entry → name ≡ n → sort ≡ spelled e → entry_bytes entry name sort ≡ spelled_lines (entry_lines p n e)
entry_spelled (ByConstant id) (Constant comment) name n sort e says named spells =
    (λ i. comment_text (says i) ++ declare_const_text (named i) (spells i)) ∙ ap (λ l. spelled_line (Comment (quoted_id id)) ++ l) (sym (append-nil (spelled_line (DeclareConst n e))))
entry_spelled (ByBody body) (Body text) name n sort e says named spells =
    (λ i. define_fun_text (named i) [] (spells i) (says i)) ∙ sym (append-nil (spelled_line (DefineFun n e body)))
entry_spelled (ByName m) (Name text) name n sort e says named spells = refl
entry_spelled (ByConstant id) (Body text) name n sort e says named spells = absurd says
entry_spelled (ByConstant id) (Name text) name n sort e says named spells = absurd says
entry_spelled (ByBody body) (Constant comment) name n sort e says named spells = absurd says
entry_spelled (ByBody body) (Name text) name n sort e says named spells = absurd says
entry_spelled (ByName m) (Constant comment) name n sort e says named spells = absurd says
entry_spelled (ByName m) (Body text) name n sort e says named spells = absurd says
