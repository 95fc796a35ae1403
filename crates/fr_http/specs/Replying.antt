-- On the way to the bytes of a reply: what is known of its parts.
use Rattle.std.specs.Prelude.{ℕ, ◌≡◌, List, ◌++◌, Option}
use Rattle.std.specs.Borrow.{Bor}
use Rattle.std.specs.Option.{option_map}
use Rattle.fr_http.specs.Exchanges.{IsExplanation}
use Rattle.fr_http.specs.Reply.{Reply, body_fields, closing, print, status_line}
use Rattle.fr_http.specs.declared.reply.ReplyText.{ReplyText}

-- The text and the status are those of the reply.
pub record IsReply (reply : Reply) (text : ReplyText) : Type 0 where
  pub status : text.status ≡ reply.status
  pub bytes : text.bytes.items ≡ print reply

-- the head of a reply with a body of so many bytes
abbrev pub head_with : ℕ → List ℕ → ℕ → List ℕ
head_with status type n = status_line status ++ body_fields status type n ++ closing

-- The text is that of a reply that explains the word.
abbrev pub RepliesExplained : Option (Bor (List ℕ)) → ReplyText → Type 0
RepliesExplained word text = (reply : Reply) × IsExplanation (option_map (λ w. w.now) word) reply × IsReply reply text
