use Rattle.smt_term.specs.Enums.{enums_of}
use Rattle.smt_term.proofs.FormedTerms.{terms_are_formed}
use Rattle.smt_term.specs.View.{plain_term}
use Rattle.smt_encode.specs.Encoded.{enums_in, is_spent, sink_of}
use Rattle.smt_review.proofs.Writing.{askable, refused, written}
use Rattle.smt_review.proofs.ask.script_of.Goals as goal

pub returns-clause-text : goal.returns-clause-text
returns-clause-text c =
    written (enums_in c.new-encoder.result) (enums_of c.args.enums.now) c.args.relation (plain_term c.args.a) (plain_term c.args.b) (plain_term c.in_ok-difference.field-0) c.new-encoder.ensures.enums c.in_ok-difference.ensures.folded
    c.new.result (sink_of c.new-encoder.result) (sink_of c.encode.new.self) c.into_script.result c.new.ensures c.new-encoder.ensures.sink (c.in_ok-encode.ensures.stated c.new-encoder.ensures.fresh).text c.into_script.ensures

pub returns-clause-askable : goal.returns-clause-askable
returns-clause-askable c =
    askable (enums_in c.new-encoder.result) (enums_of c.args.enums.now) c.args.relation (plain_term c.args.a) (plain_term c.args.b) (plain_term c.in_ok-difference.field-0) c.new-encoder.ensures.enums c.in_ok-difference.ensures.folded
    c.requires.first c.requires.second (terms_are_formed c.in_ok-difference.field-0) c.in_ok-encode.ensures.complete.faultless

pub returns-in_err-encode-clause-refused : goal.returns-in_err-encode-clause-refused
returns-in_err-encode-clause-refused c =
    refused (enums_in c.new-encoder.result) (enums_of c.args.enums.now) c.args.relation (plain_term c.args.a) (plain_term c.args.b) (plain_term c.in_ok-difference.field-0) c.new-encoder.ensures.enums c.in_ok-difference.ensures.folded
    c.from_residual-in_err-encode.result c.in_err-encode.field-0.0 (is_spent c.new-encoder.result) c.requires.first c.requires.second c.from_residual-in_err-encode.ensures.1 c.new-encoder.ensures.unspent
    c.in_err-encode.ensures.spent.answer c.in_err-encode.ensures.refused c.in_err-encode.ensures.takes
