-- How many threads of sites can go on.
use Rattle.std.specs.Prelude.{ℕ, ◌-◌, length}
use Rattle.thread_roster.specs.Threads.{waiting_of}
use Rattle.site_model.specs.Site.{Site}

-- how many threads can go on
abbrev pub runnable_count : Site → ℕ
runnable_count s = length s.threads - waiting_of s.threads
