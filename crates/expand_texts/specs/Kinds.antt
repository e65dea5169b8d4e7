-- What a kind of the code stands for.
use Rattle.std.specs.Prelude.{ℕ}
use Rattle.expand_texts.specs.declared.kind.Kind.{Kind as KindOf}
use Rattle.expand_texts.specs.declared.kind.Kind.TheVariants.{Written as IsWritten, Word as IsWord, If as IsIf, IfEq as IsIfEq, Switch as IsSwitch, Invoke as IsInvoke, Include as IsInclude}
use Rattle.expand_meaning.specs.Kind.{Kind, Written, Word, If, IfEq, Switch, Invoke, Include}

abbrev pub kind_in : KindOf → Kind
kind_in IsWritten = Written
kind_in (IsWord word) = Word word.items
kind_in (IsIf argument) = If argument.now
kind_in (IsIfEq argument) = IfEq argument.now
kind_in (IsSwitch argument) = Switch argument.now
kind_in (IsInvoke argument) = Invoke argument.now
kind_in (IsInclude title) = Include title
