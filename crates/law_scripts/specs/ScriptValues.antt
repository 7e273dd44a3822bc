-- The values of expressions in a script.
use Rattle.std.specs.Prelude.{ℕ, Bool, List}

mutual
  -- A value of an expression in a script: a Boolean, bits of a width, a text by its code points, a constructor, which has its place in
  -- its datatype's declaration, at values, or a set, whose elements ascend strictly (cvc5's finite sets).
  pub data ScriptValue : Type 0 where
    TruthOf : Bool → ScriptValue
    BitsOf : (width number : ℕ) → ScriptValue
    TextOf : List ℕ → ScriptValue
    ConstructorOf : (place : ℕ) → (name : List ℕ) → ScriptValues → ScriptValue
    SetOf : ScriptValues → ScriptValue

  -- the arguments of a constructor in order, or the elements of a set
  pub data ScriptValues : Type 0 where
    no_script_values : ScriptValues
    one_script_value : ScriptValue → ScriptValues → ScriptValues
