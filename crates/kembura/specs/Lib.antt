pub use Rattle.law_assignments.specs.Covered
pub use Rattle.law_assignments.specs.InputLaws
pub use Rattle.law_assignments.specs.InputRows
pub use Rattle.law_assignments.specs.Laws as AssignmentsLaws
pub use Rattle.law_assignments.specs.Models
pub use Rattle.law_assignments.specs.Rows as AssignmentsRows
pub use Rattle.law_blasting.specs.CircuitLaws
pub use Rattle.law_blasting.specs.Laws as BlastingLaws
pub use Rattle.law_blasting.specs.NewTerms
pub use Rattle.law_blasting.specs.Numbering
pub use Rattle.law_blasting.specs.Rows as BlastingRows
pub use Rattle.law_blasting.specs.Sizes
pub use Rattle.law_blasting.specs.Theorem
pub use Rattle.law_cedar.specs.Laws as EnvironmentLaws
pub use Rattle.law_cedar.specs.Rows as EnvironmentRows
pub use Rattle.law_cedar.specs.Symbolized
pub use Rattle.law_cedar.specs.ValueLaws
pub use Rattle.law_cedar.specs.ValueRows
pub use Rattle.law_clauses.specs.Applications as ClausesApplications
pub use Rattle.law_clauses.specs.Bits
pub use Rattle.law_clauses.specs.Clauses
pub use Rattle.law_clauses.specs.Entities as ClausesEntities
pub use Rattle.law_clauses.specs.Equality
pub use Rattle.law_clauses.specs.Example as ClausesExample
pub use Rattle.law_clauses.specs.Extensions as ClausesExtensions
pub use Rattle.law_clauses.specs.GateClauses
pub use Rattle.law_clauses.specs.Gates
pub use Rattle.law_clauses.specs.Known
pub use Rattle.law_clauses.specs.Options
pub use Rattle.law_clauses.specs.Parts as ClausesParts
pub use Rattle.law_clauses.specs.PatternTests
pub use Rattle.law_clauses.specs.ProductOverflows
pub use Rattle.law_clauses.specs.Products
pub use Rattle.law_clauses.specs.Quotients
pub use Rattle.law_clauses.specs.Records
pub use Rattle.law_clauses.specs.Rows as ClausesRows
pub use Rattle.law_clauses.specs.Sequents
pub use Rattle.law_clauses.specs.Sets
pub use Rattle.law_clauses.specs.Shapes as ClausesShapes
pub use Rattle.law_clauses.specs.SignedQuotients
pub use Rattle.law_clauses.specs.Statements
pub use Rattle.law_clauses.specs.Strings
pub use Rattle.law_clauses.specs.Structure
pub use Rattle.law_clauses.specs.ValidRows
pub use Rattle.law_extensions.specs.Answers
pub use Rattle.law_extensions.specs.ExtensionFunctions
pub use Rattle.law_extensions.specs.FoldedRows
pub use Rattle.law_extensions.specs.Laws as ExtensionsLaws
pub use Rattle.law_extensions.specs.Readings
pub use Rattle.law_extensions.specs.Rows as ExtensionsRows
pub use Rattle.law_extensions.specs.Rules
pub use Rattle.law_extensions.specs.TextRows
pub use Rattle.law_extensions.specs.Values as ExtensionsValues
pub use Rattle.law_folding.specs.AppOf
pub use Rattle.law_folding.specs.Applications
pub use Rattle.law_folding.specs.Builder
pub use Rattle.law_folding.specs.Built
pub use Rattle.law_folding.specs.Composites
pub use Rattle.law_folding.specs.Congruence
pub use Rattle.law_folding.specs.FoldBits
pub use Rattle.law_folding.specs.FoldConnectives
pub use Rattle.law_folding.specs.FoldEquality
pub use Rattle.law_folding.specs.FoldExtensions
pub use Rattle.law_folding.specs.FoldFunctions
pub use Rattle.law_folding.specs.FoldOptions
pub use Rattle.law_folding.specs.FoldRecords
pub use Rattle.law_folding.specs.FoldRows
pub use Rattle.law_folding.specs.FoldSets
pub use Rattle.law_folding.specs.FoldStrings
pub use Rattle.law_folding.specs.Laws as FoldingLaws
pub use Rattle.law_folding.specs.Parts as FoldingParts
pub use Rattle.law_folding.specs.RecordOf
pub use Rattle.law_folding.specs.Refinement
pub use Rattle.law_folding.specs.SetOf
pub use Rattle.smt_runs.specs.Asked
pub use Rattle.smt_runs.specs.JobTexts
pub use Rattle.smt_runs.specs.Meaning as JobScriptsMeaning
pub use Rattle.law_jobs.specs.Declarations
pub use Rattle.law_jobs.specs.Enums as JobsEnums
pub use Rattle.law_jobs.specs.Jobs
pub use Rattle.law_jobs.specs.Laws as JobsLaws
pub use Rattle.law_jobs.specs.Outcomes
pub use Rattle.law_jobs.specs.Steps as JobSteps
pub use Rattle.law_jobs.specs.Types as JobsTypes
pub use Rattle.law_lines.specs.EntryNames
pub use Rattle.law_lines.specs.Every
pub use Rattle.law_lines.specs.Hostile
pub use Rattle.law_lines.specs.Joins
pub use Rattle.law_lines.specs.Line
pub use Rattle.law_lines.specs.LineForms
pub use Rattle.law_lines.specs.Lines
pub use Rattle.law_lines.specs.Made
pub use Rattle.law_lines.specs.NameTables
pub use Rattle.law_lines.specs.Rows as LinesRows
pub use Rattle.law_lines.specs.Scripts
pub use Rattle.law_lines.specs.Spelling
pub use Rattle.law_lines.specs.TableGrowth
pub use Rattle.law_lines.specs.Text
pub use Rattle.law_numbers.specs.BitOperators
pub use Rattle.law_numbers.specs.BitVectors
pub use Rattle.law_numbers.specs.Laws as NumbersLaws
pub use Rattle.law_numbers.specs.Longs
pub use Rattle.law_numbers.specs.Rows as NumbersRows
pub use Rattle.law_numbers.specs.Shifts
pub use Rattle.law_scripts.specs.CommandLines
pub use Rattle.law_scripts.specs.DeclarationLines
pub use Rattle.law_scripts.specs.LongRows
pub use Rattle.law_scripts.specs.Meanings as ScriptsMeanings
pub use Rattle.law_scripts.specs.NoScripts
pub use Rattle.law_scripts.specs.Numerals
pub use Rattle.law_scripts.specs.Rows as ScriptsRows
pub use Rattle.law_scripts.specs.Script
pub use Rattle.law_scripts.specs.ScriptOrder
pub use Rattle.law_scripts.specs.ScriptValues
pub use Rattle.law_scripts.specs.SelectorRows
pub use Rattle.law_scripts.specs.Sorts
pub use Rattle.law_scripts.specs.Value
pub use Rattle.law_scripts.specs.Written
pub use Rattle.law_scripts.specs.WrittenStrings
pub use Rattle.law_terms.specs.Defaults
pub use Rattle.law_terms.specs.Faults
pub use Rattle.law_terms.specs.Fits
pub use Rattle.law_terms.specs.Formed
pub use Rattle.law_terms.specs.Functions
pub use Rattle.law_terms.specs.Interpretations
pub use Rattle.law_terms.specs.Laws
pub use Rattle.law_terms.specs.Literals
pub use Rattle.law_terms.specs.Meaning
pub use Rattle.law_terms.specs.Meanings
pub use Rattle.law_terms.specs.Names
pub use Rattle.law_terms.specs.NodeLaws
pub use Rattle.law_terms.specs.NodeRows
pub use Rattle.law_terms.specs.Nodes
pub use Rattle.law_terms.specs.Operators
pub use Rattle.law_terms.specs.Parts
pub use Rattle.law_terms.specs.Patterns
pub use Rattle.law_terms.specs.Plain
pub use Rattle.law_terms.specs.Reached
pub use Rattle.law_terms.specs.Rows as TermsRows
pub use Rattle.law_terms.specs.Shapes
pub use Rattle.law_terms.specs.Tables
pub use Rattle.law_terms.specs.TermOrder
pub use Rattle.law_terms.specs.TermSets
pub use Rattle.law_terms.specs.TypeValues
pub use Rattle.law_terms.specs.Types
pub use Rattle.law_terms.specs.Typing
pub use Rattle.law_terms.specs.ValueOrder
pub use Rattle.law_terms.specs.Values
pub use Rattle.law_texts.specs.Characters
pub use Rattle.law_texts.specs.Digits
pub use Rattle.law_texts.specs.Escapes
pub use Rattle.law_texts.specs.Front
pub use Rattle.law_texts.specs.Lexicon
pub use Rattle.law_texts.specs.LineTexts
pub use Rattle.law_texts.specs.Parts as TextsParts
pub use Rattle.law_texts.specs.QuotedTexts
pub use Rattle.law_texts.specs.Quoting
pub use Rattle.law_texts.specs.Reading
pub use Rattle.law_texts.specs.Reads
pub use Rattle.law_texts.specs.SharedTexts
pub use Rattle.law_texts.specs.Tokens
pub use Rattle.law_theorem.specs.CarriedInterpretations
pub use Rattle.law_theorem.specs.CarriedOperators
pub use Rattle.law_theorem.specs.CarriedOrder
pub use Rattle.law_theorem.specs.CarriedSorts
pub use Rattle.law_theorem.specs.CarryRows
pub use Rattle.law_theorem.specs.Conditions
pub use Rattle.law_theorem.specs.DeclaredDatatypes
pub use Rattle.law_theorem.specs.Example
pub use Rattle.law_theorem.specs.Fits as TheoremFits
pub use Rattle.law_theorem.specs.FittingStates
pub use Rattle.law_theorem.specs.FlatScripts
pub use Rattle.law_theorem.specs.Headline
pub use Rattle.law_theorem.specs.Open
pub use Rattle.law_theorem.specs.Selections as TheoremSelections
pub use Rattle.law_theorem.specs.Sessions as SessionSteps
pub use Rattle.law_theorem.specs.SortedExample
pub use Rattle.law_theorem.specs.SortedScripts
pub use Rattle.law_theorem.specs.Stated
pub use Rattle.law_theorem.specs.TextValues
pub use Rattle.law_theorem.specs.WellWritten
pub use Rattle.law_verdicts.specs.Broken
pub use Rattle.law_verdicts.specs.Chunks
pub use Rattle.law_verdicts.specs.Dialogues
pub use Rattle.law_verdicts.specs.FirstModel
pub use Rattle.law_verdicts.specs.Fragment
pub use Rattle.law_verdicts.specs.HandedOut
pub use Rattle.law_verdicts.specs.Honest
pub use Rattle.law_verdicts.specs.Honesty
pub use Rattle.law_verdicts.specs.Idle
pub use Rattle.law_verdicts.specs.InHand
pub use Rattle.law_verdicts.specs.Joined
pub use Rattle.law_verdicts.specs.Machine
pub use Rattle.law_verdicts.specs.Rows as VerdictsRows
pub use Rattle.law_verdicts.specs.Scan
pub use Rattle.law_verdicts.specs.Streams
pub use Rattle.law_verdicts.specs.TruthRows
pub use Rattle.law_verdicts.specs.Truths
pub use Rattle.law_verdicts.specs.Verdicts
pub use Rattle.smt_bits.specs.BitVec
pub use Rattle.smt_bits.specs.Fin
pub use Rattle.smt_bits.specs.Printed as BitsPrinted
pub use Rattle.smt_bits.specs.Width
pub use Rattle.smt_blast.specs.Answers as BlastAnswers
pub use Rattle.smt_blast.specs.View as BlastView
pub use Rattle.smt_blast.specs.Causes as BlastCauses
pub use Rattle.smt_blast.specs.Meaning as BlastMeaning
pub use Rattle.smt_blast.specs.Refused as BlastRefused
pub use Rattle.smt_blast.specs.Run as BlastRun
pub use Rattle.smt_blast.specs.Words as BlastWords
pub use Rattle.smt_clauses.specs.Assumed
pub use Rattle.smt_clauses.specs.Loops
pub use Rattle.smt_clauses.specs.Marked
pub use Rattle.smt_clauses.specs.Outcomes as ClausesOutcomes
pub use Rattle.smt_clauses.specs.ProofView
pub use Rattle.smt_clauses.specs.Settled
pub use Rattle.smt_clauses.specs.Variables
pub use Rattle.smt_clauses.specs.View as ClausesView
pub use Rattle.smt_cli.specs.Causes
pub use Rattle.smt_cli.specs.Generated
pub use Rattle.smt_cli.specs.Rows as CliRows
pub use Rattle.smt_cli.specs.Run
pub use Rattle.smt_cli.specs.SmallVerdicts
pub use Rattle.smt_cli.specs.SummaryRows
pub use Rattle.smt_cli.specs.Words
pub use Rattle.smt_dimacs.specs.Entries as DimacsEntries
pub use Rattle.smt_dimacs.specs.Faults as DimacsFaults
pub use Rattle.smt_dimacs.specs.Formulas
pub use Rattle.smt_dimacs.specs.Rows as DimacsRows
pub use Rattle.smt_dimacs.specs.Words as DimacsWords
pub use Rattle.smt_encode.specs.Alone
pub use Rattle.smt_encode.specs.Applied
pub use Rattle.smt_encode.specs.Complete
pub use Rattle.smt_encode.specs.Encoded
pub use Rattle.smt_encode.specs.Errors as EncodeErrors
pub use Rattle.smt_encode.specs.Interrupted
pub use Rattle.smt_encode.specs.Refusals as EncodeRefusals
pub use Rattle.smt_eval.specs.AssignmentView
pub use Rattle.smt_eval.specs.Evaluable
pub use Rattle.smt_eval.specs.InputRefused
pub use Rattle.smt_eval.specs.FirstPlaces as AssignmentPlaces
pub use Rattle.smt_eval.specs.ReaderView
pub use Rattle.smt_eval.specs.WrittenView
pub use Rattle.smt_eval.specs.Answers as EvalAnswers
pub use Rattle.smt_eval.specs.Causes as EvalCauses
pub use Rattle.smt_eval.specs.Refused as EvalRefused
pub use Rattle.smt_eval.specs.Run as EvalRun
pub use Rattle.smt_eval.specs.Words as EvalWords
pub use Rattle.smt_ext.specs.DatetimeReading
pub use Rattle.smt_ext.specs.DatetimeRefusal
pub use Rattle.smt_ext.specs.DatetimeText
pub use Rattle.smt_ext.specs.Decimal
pub use Rattle.smt_ext.specs.DurationRefusal
pub use Rattle.smt_ext.specs.DurationText
pub use Rattle.smt_ext.specs.ExtOrder
pub use Rattle.smt_ext.specs.Extensions
pub use Rattle.smt_ext.specs.IpOrder
pub use Rattle.smt_ext.specs.IpPrinted
pub use Rattle.smt_ext.specs.IpRanges
pub use Rattle.smt_ext.specs.IpRows
pub use Rattle.smt_ext.specs.IpText
pub use Rattle.smt_ext.specs.IpView
pub use Rattle.smt_ext.specs.Milliseconds
pub use Rattle.smt_ext.specs.Printed as ExtPrinted
pub use Rattle.smt_ext.specs.Rows as ExtRows
pub use Rattle.smt_factory.specs.Closures
pub use Rattle.smt_factory.specs.Pairs as FactoryPairs
pub use Rattle.smt_factory_core.specs.AnyOf
pub use Rattle.smt_factory_core.specs.AnyRows
pub use Rattle.smt_factory_core.specs.FoldBy
pub use Rattle.smt_job_terms.specs.DeclarationView
pub use Rattle.smt_job_terms.specs.ReadAs
pub use Rattle.smt_jobs.specs.Applied as NodeApplications
pub use Rattle.smt_jobs.specs.Direct as DirectReading
pub use Rattle.smt_jobs.specs.JobView
pub use Rattle.smt_jobs.specs.Labels as NodeApplicationLabels
pub use Rattle.smt_jobs.specs.Numbered
pub use Rattle.smt_jobs.specs.Numbers as JobNumbers
pub use Rattle.smt_jobs.specs.Refused as JobsRefused
pub use Rattle.smt_jobs.specs.StepView
pub use Rattle.smt_mini.specs.Commands as MiniCommands
pub use Rattle.smt_mini.specs.Levels as MiniLevels
pub use Rattle.smt_mini.specs.Replies as MiniReplies
pub use Rattle.smt_mini.specs.Stands as MiniStands
pub use Rattle.smt_mini.specs.Turns as MiniTurns
pub use Rattle.smt_nodes.specs.Attributes
pub use Rattle.smt_nodes.specs.Index
pub use Rattle.smt_nodes.specs.Interned
pub use Rattle.smt_nodes.specs.Kinds
pub use Rattle.smt_nodes.specs.LabelKinds
pub use Rattle.smt_nodes.specs.Laws as NodesLaws
pub use Rattle.smt_nodes.specs.Subject
pub use Rattle.smt_nodes.specs.View as NodesView
pub use Rattle.smt_pool.specs.Asked as AskedInHand
pub use Rattle.smt_pool.specs.Checks
pub use Rattle.smt_pool.specs.Config
pub use Rattle.smt_pool.specs.Dialogue
pub use Rattle.smt_pool.specs.Errors as PoolErrors
pub use Rattle.smt_pool.specs.Pool
pub use Rattle.smt_pool.specs.Pooled
pub use Rattle.smt_pool.specs.Sessions
pub use Rattle.smt_program.specs.Ends as ProgramEnds
pub use Rattle.smt_program.specs.Words as ProgramWords
pub use Rattle.smt_review.specs.Causes as ReviewCauses
pub use Rattle.smt_review.specs.Differences
pub use Rattle.smt_review.specs.Errors as ReviewErrors
pub use Rattle.smt_review.specs.Once as ReviewOnce
pub use Rattle.smt_review.specs.Pairs as ReviewPairs
pub use Rattle.smt_review.specs.Refused as ReviewRefused
pub use Rattle.smt_review.specs.Reviews
pub use Rattle.smt_review.specs.Rows as ReviewRows
pub use Rattle.smt_review.specs.Run as ReviewRun
pub use Rattle.smt_review.specs.Sessions as ReviewSessions
pub use Rattle.smt_review.specs.SmallFindings
pub use Rattle.smt_review.specs.Words as ReviewWords
pub use Rattle.smt_runs.specs.Asking
pub use Rattle.smt_runs.specs.Jobs as RunsJobs
pub use Rattle.smt_runs.specs.Pieces as RunsPieces
pub use Rattle.smt_runs.specs.Refusal as RunsRefusal
pub use Rattle.smt_runs.specs.Runs as ProgramRuns
pub use Rattle.smt_sat_run.specs.Answers as SatRunAnswers
pub use Rattle.smt_sat_run.specs.Around
pub use Rattle.smt_sat_run.specs.Causes as SatRunCauses
pub use Rattle.smt_sat_run.specs.Refusal as SatRunRefusal
pub use Rattle.smt_sat_run.specs.Run as SatRunRun
pub use Rattle.smt_sat_run.specs.Values as SatRunValues
pub use Rattle.smt_sat_run.specs.Words as SatRunWords
pub use Rattle.smt_script.specs.Bytes
pub use Rattle.smt_script.specs.Count
pub use Rattle.smt_script.specs.Input
pub use Rattle.smt_script.specs.Memory
pub use Rattle.smt_script.specs.MemorySource
pub use Rattle.smt_script.specs.Sink
pub use Rattle.smt_script.specs.Source
pub use Rattle.smt_script.specs.Writer
pub use Rattle.smt_search.specs.Answers as SearchAnswers
pub use Rattle.smt_search.specs.Given
pub use Rattle.smt_search.specs.Limits
pub use Rattle.smt_sexpr.specs.Literals as SexprLiterals
pub use Rattle.smt_sexpr.specs.Pieces
pub use Rattle.smt_sexpr.specs.Printed as SexprPrinted
pub use Rattle.smt_sexpr.specs.Refusals as SexprRefusals
pub use Rattle.smt_sexpr.specs.View as SexprView
pub use Rattle.smt_solve.specs.Children
pub use Rattle.smt_solve.specs.Cvc5
pub use Rattle.smt_solve.specs.Errors as SolveErrors
pub use Rattle.smt_solve.specs.FailedWriter
pub use Rattle.smt_solve.specs.Link
pub use Rattle.smt_solve.specs.MemoryLink
pub use Rattle.smt_solve.specs.MemoryStarter
pub use Rattle.smt_solve.specs.Question
pub use Rattle.smt_solve.specs.Session
pub use Rattle.smt_solve.specs.Starter
pub use Rattle.smt_solve.specs.Starters
pub use Rattle.smt_spelling.specs.Entries
pub use Rattle.smt_spelling.specs.LookUpRows
pub use Rattle.smt_spelling.specs.LookUps
pub use Rattle.smt_spelling.specs.Names as SpellingNames
pub use Rattle.smt_spelling.specs.NodeEntries
pub use Rattle.smt_spelling.specs.NodeLines
pub use Rattle.smt_spelling.specs.NodeTexts
pub use Rattle.smt_spelling.specs.Renderings
pub use Rattle.smt_spelling.specs.Selections as SpellingSelections
pub use Rattle.smt_spelling.specs.SelectorFaults
pub use Rattle.smt_spelling.specs.Spelled
pub use Rattle.smt_spelling.specs.TextFaults
pub use Rattle.smt_spelling.specs.Texts
pub use Rattle.smt_spelling.specs.Whole
pub use Rattle.smt_stream.specs.Led
pub use Rattle.smt_stream.specs.Links as StreamLinks
pub use Rattle.smt_stream.specs.Runs as StreamRuns
pub use Rattle.smt_stream.specs.Starters as StreamStarters
pub use Rattle.smt_stream.specs.Words as StreamWords
pub use Rattle.smt_symbolizer.specs.ByType
pub use Rattle.smt_symbolizer.specs.EntityView
pub use Rattle.smt_symbolizer.specs.Listed
pub use Rattle.smt_symbolizer.specs.Named as SymbolizerNamed
pub use Rattle.smt_symbolizer.specs.View as SymbolizerView
pub use Rattle.smt_term.specs.Entities
pub use Rattle.smt_term.specs.Enums as TermEnums
pub use Rattle.smt_term.specs.ExtensionView
pub use Rattle.smt_term.specs.Functions as TermFunctions
pub use Rattle.smt_term.specs.Maps as TermMaps
pub use Rattle.smt_term.specs.Orders
pub use Rattle.smt_term.specs.Pairs as TermPairs
pub use Rattle.smt_term.specs.PatternOrder
pub use Rattle.smt_term.specs.PatternView
pub use Rattle.smt_term.specs.Printed as TermPrinted
pub use Rattle.smt_term.specs.Program as TermProgram
pub use Rattle.smt_term.specs.ProgramTypes
pub use Rattle.smt_term.specs.SortedPairs
pub use Rattle.smt_term.specs.Tables as TermTables
pub use Rattle.smt_term.specs.TextSets
pub use Rattle.smt_term.specs.TypeKinds
pub use Rattle.smt_term.specs.TypeMaps
pub use Rattle.smt_term.specs.TypeView
pub use Rattle.smt_term.specs.View as TermView
pub use Rattle.smt_values.specs.AttributeMaps
pub use Rattle.smt_values.specs.Cedar
pub use Rattle.smt_values.specs.Constructed
pub use Rattle.smt_values.specs.Constructors
pub use Rattle.smt_values.specs.DefaultTerm
pub use Rattle.smt_values.specs.EntityTypes
pub use Rattle.smt_values.specs.Literals as ValuesLiterals
pub use Rattle.smt_values.specs.Named as CedarNamed
pub use Rattle.smt_values.specs.PlainValues as CedarPlain
pub use Rattle.smt_values.specs.Refused as ValuesRefused
pub use Rattle.smt_values.specs.RefusedTypes
pub use Rattle.smt_values.specs.RefusedValues
pub use Rattle.smt_values.specs.Rows as ValuesRows
pub use Rattle.smt_values.specs.StoreLaws
pub use Rattle.smt_values.specs.StoreRows
pub use Rattle.smt_values.specs.Stores
pub use Rattle.smt_values.specs.TermOfValue
pub use Rattle.smt_values.specs.TypeOfCedar
pub use Rattle.smt_values.specs.TypeRows
pub use Rattle.smt_values.specs.TypeView as CedarTypeView
pub use Rattle.smt_values.specs.ValueView
pub use Rattle.smt_values.specs.View as ValuesView
