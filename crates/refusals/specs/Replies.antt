-- The answers in plain numbers, as document 01 lists them (SCOPE 6.18).
use Rattle.std.specs.Prelude.{ℕ, zero, suc, Result, Ok, Err}
use Rattle.refusals.specs.declared.Refusal.{Refusal}
use Rattle.refusals.specs.Refusals.{number_of}
use Rattle.refusals.specs.declared.ValueReply.{ValueReply}

-- The reply for a refusal's number, 0 for none, and a value: 0 stands beside a refusal.
abbrev pub value_reply : ℕ → ℕ → ValueReply
value_reply zero v = record { refusal = 0; value = v }
value_reply (suc n) v = record { refusal = suc n; value = 0 }

-- What an answer says.
abbrev pub plain_value : Result ℕ Refusal → ValueReply
plain_value (Ok v) = record { refusal = 0; value = v }
plain_value (Err r) = record { refusal = number_of r; value = 0 }
