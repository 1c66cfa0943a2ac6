-- Who is woken after a turn, and the worker of each site.
use Rattle.std.specs.Prelude.{◌≡◌, ◌↔◌, ℕ, ◌-◌, ◌%◌, List}
use Rattle.std.specs.List.{Any}
use Rattle.std.specs.Int.{bit_at}
use Rattle.tree_node.specs.declared.limits.TheConstants.{MOST_SITES}
use Rattle.site_message.specs.declared.message.Sent.{Sent}
use Rattle.message_book.specs.Book.{IsSiteOf}

-- one of the messages goes to the site k
abbrev pub IsSentTo : ℕ → List Sent → Type 0
IsSentTo k sent = Any (λ (s : Sent). s.to ≡ k) sent

-- the bit k - 1 of the word is set exactly where one of the messages goes to the site k, 1 to 64
abbrev pub AreRecipients : ℕ → List Sent → Type 0
AreRecipients word sent = (k : ℕ) → IsSiteOf MOST_SITES k → ((bit_at word (k - 1) ≡ 1) ↔ IsSentTo k sent)

-- the worker of a site, of so many
abbrev pub worker_of : ℕ → ℕ → ℕ
worker_of site workers = site % workers
