use Rattle.std.proofs.Common.{sym, ◌∙◌}
use Rattle.law_terms.specs.Nodes.{TermMeaning}
use Rattle.smt_term.specs.View.{plain_term}
use Rattle.smt_encode.specs.Encoded.{nodes_in, texts_in}
use Rattle.smt_cli.proofs.Summarizing.{found_alike, mapped_alike}
use Rattle.smt_cli.proofs.generation.is_named.Goals as goal

pub returns : goal.returns
returns c s names =
    let encoder = c.args.encoder.now in
    c.is_some.ensures ∙ sym (mapped_alike _ c.name_of_term.result) ∙ found_alike (nodes_in encoder) (texts_in encoder) (TermMeaning (plain_term c.args.term.now)) _ _ c.name_of_term.ensures (names.names (TermMeaning (plain_term c.args.term.now)))
