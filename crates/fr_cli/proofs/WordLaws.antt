-- Why words are refused, and by what an error is told.
use Rattle.std.proofs.Common.{◌≡◌, ◌∙◌, ◌⊎◌, inl, inr, List, Result, Ok, Err, refl, subst, sym}
use Rattle.std.specs.Prelude.{IfErr, IsErrAnd}
use Rattle.clap.specs.Walk.{Text}
use Rattle.clap.specs.Words.{HasKind, IsAmong, fault_of, kind_of}
use Rattle.clap.specs.declared.error.Error.{Error}
use Rattle.fr_cli.specs.Commands.{slotplan}
use Rattle.clap.specs.declared.error.kind.ErrorKind.{ErrorKind}
use Rattle.clap.specs.declared.error.kind.ErrorKind.TheVariants.{DisplayHelp, DisplayVersion, OutOfMemory}
use Rattle.fr_cli.specs.Words.{AreTaken, IsOfKind, LackAnObject, MayRefuse}
use Rattle.fr_cli.specs.declared.words.WordFault.{WordFault}
use Rattle.fr_cli.specs.declared.words.WordFault.TheVariants.{Help, Usage, NoMemory}

-- a fault that `clap` finds in the words refuses them
pub refused_by : (words : List Text) (e : Error) → HasKind (fault_of slotplan words) e → MayRefuse words (kind_of e)
refused_by words e (inl memory) = inl memory
refused_by words e (inr among) = inr (inl among)

-- the error that is handed on is the one that was had
pub handed_on : {T : Type 0} (words : List Text) (e : Error) (r : Result T Error) → IsErrAnd r (λ x. x ≡ e) → MayRefuse words (kind_of e)
    → IfErr r (λ error. MayRefuse words (kind_of error))
handed_on words e (Ok x) is refused = tt
handed_on words e (Err x) is refused = subst (λ (y : Error). MayRefuse words (kind_of y)) (sym is) refused

-- want of memory is told as such
told_as_such : (kind : ErrorKind) (fault : WordFault) → kind ≡ OutOfMemory → IsOfKind kind fault → fault ≡ NoMemory
told_as_such kind (Help text) memory (inl help) = let no : OutOfMemory ≡ DisplayHelp = sym memory ∙ help in cc
told_as_such kind (Help text) memory (inr version) = let no : OutOfMemory ≡ DisplayVersion = sym memory ∙ version in cc
told_as_such kind (Usage text) memory is = absurd (is.2 memory)
told_as_such kind NoMemory memory is = refl

-- words in which `clap` finds no fault are refused for want of memory, or since they lack an object
pub lacks_memory_or_object : (words : List Text) (kind : ErrorKind) (fault : WordFault) → MayRefuse words kind → IsOfKind kind fault → AreTaken words
    → (fault ≡ NoMemory) ⊎ LackAnObject words
lacks_memory_or_object words kind fault (inl memory) is taken = inl (told_as_such kind fault memory is)
lacks_memory_or_object words kind fault (inr (inl among)) is taken = absurd (subst (IsAmong kind) taken among)
lacks_memory_or_object words kind fault (inr (inr none)) is taken = inr none.3
