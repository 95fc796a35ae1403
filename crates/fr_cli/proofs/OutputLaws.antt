-- What a script's answered lines are for a register that was just made.
use Rattle.std.proofs.Common.{◌≡◌, ℕ, List, ◌++◌, refl}
use Rattle.fr_base.specs.Book.{opening}
use Rattle.fr_base.specs.Cluster.{ClusterFile, IsWellFormed}
use Rattle.fr_base.proofs.SoundLaws.{opening-sound}
use Rattle.fr_world.specs.Held.{Standing}
use Rattle.fr_base.specs.declared.answer.Answer.{Answer}
use Rattle.fr_cli.specs.AnsweredLines.{AnswersAll}
use Rattle.fr_cli.specs.Output.{IsAnsweredTo, text_of_answers}
use Rattle.fr_cli.proofs.ScriptRunLaws.{answered-sound, collision-free_after, script-alone}

-- The lines are answered up to those that are left, with the text of these answers.
pub answered_to : (clean : Type 0) (old new : Standing) (f : ClusterFile) (lines front left : List (List ℕ)) (answers : List Answer) (written : List ℕ) → clean → IsWellFormed f
    → old f.cluster (opening f) → lines ≡ front ++ left → AnswersAll clean old new front answers → written ≡ text_of_answers answers
    → (to : IsAnsweredTo f lines left written) × (to.answered.answers ≡ answers)
answered_to clean old new f lines front left answers written is formed stands whole so bytes =
    let sound = opening-sound f formed in
    let (book, _, answered) = so is f.cluster (opening f) stands sound in (
      record {
        front = front;
        all = whole;
        answered = record {
          answers = answers;
          last = book;
          answered = answered;
          bytes = bytes;
          alone = λ s. script-alone f book front answers s formed answered;
          collision_free = collision-free_after f book front answers formed answered;
          sound = answered-sound f.cluster (opening f) book front answers answered sound;
        };
      },
      refl,
    )
