-- Replies in plain fields.
use Rattle.std.specs.Prelude.{Bool, None, Some, true, false, ◌&&◌, not, is_some, unwrap_or}
use Rattle.lot_machine.specs.declared.reply.Outcome.{Outcome}
use Rattle.lot_machine.specs.declared.reply.Outcome.TheVariants as outcome
use Rattle.lot_machine.specs.declared.reply.Reply.{Reply}
use Rattle.lot_machine.specs.declared.reply.Reply.TheVariants as reply
use Rattle.lot_c.specs.declared.reply.PlainReply.{PlainReply}
use Rattle.lot_c.specs.declared.wide.Wide.{Wide}
use Rattle.lot_c.specs.Numbers.{outcome_number, refusal_number, reply_number, trap_refusal_number}
use Rattle.lot_c.specs.Wides.{plain_wide}

-- the wide number 0
abbrev zero_wide : Wide
zero_wide = record { low = 0; high = 0 }

-- all fields 0
abbrev pub blank_reply : PlainReply
blank_reply = record {
  number = zero_wide;
  total = zero_wide;
  kind = 0;
  reason = 0;
  ticket = 0;
  currency = 0;
  thread = 0;
  ticks = 0;
  outcome = 0;
  other = 0;
  replied_to = 0;
  sent = 0;
  has_sent = false;
  has_draw = false;
  ends = false;
  goes_on = false;
}

-- the fields that an outcome sets, except its number
abbrev outcome_fields : Outcome → PlainReply
outcome_fields (outcome.ServedBy server) = record blank_reply { other = server }
outcome_fields (outcome.Received client number) = record blank_reply { other = client; sent = number; has_sent = true }
outcome_fields (outcome.Replied client) = record blank_reply { other = client }
outcome_fields (outcome.RepliedThenReceived to client number) = record blank_reply { other = client; replied_to = to; sent = number; has_sent = true }
outcome_fields (outcome.RepliedThenWaits to) = record blank_reply { replied_to = to }
outcome_fields (outcome.Passed to None) = record blank_reply { other = to }
outcome_fields (outcome.Passed to (Some draw)) =
    record blank_reply { other = to; has_draw = true; number = record { low = draw.0; high = 0 }; total = record { low = draw.1; high = 0 } }
outcome_fields (outcome.Refused why) = record blank_reply { reason = trap_refusal_number why }
outcome_fields other = blank_reply

-- whether the outcome of a trap leaves its thread on the processor while its quantum lasts
abbrev pub runs_on : Outcome → Bool
runs_on (outcome.Received client number) = true
runs_on (outcome.Replied client) = true
runs_on (outcome.RepliedThenReceived to client number) = true
runs_on outcome.Locked = true
runs_on outcome.Freed = true
runs_on (outcome.Refused why) = true
runs_on other = false

-- the outcome of a trap in plain fields
abbrev pub plain_outcome : Outcome → PlainReply
plain_outcome o = record (outcome_fields o) { outcome = outcome_number o }

-- the fields that a reply sets, except its kind
abbrev reply_fields : Reply → PlainReply
reply_fields (reply.Ticket ticket) = record blank_reply { ticket = ticket }
reply_fields (reply.Currency currency) = record blank_reply { currency = currency }
reply_fields (reply.Thread thread) = record blank_reply { thread = thread }
reply_fields (reply.Funded ticket thread) = record blank_reply { ticket = ticket; thread = thread }
reply_fields (reply.Winner thread number total delivered) =
    record blank_reply { thread = thread; number = plain_wide number; total = plain_wide total; sent = unwrap_or delivered 0; has_sent = is_some delivered; has_draw = true; goes_on = true }
reply_fields (reply.Expired thread ticks) = record blank_reply { thread = thread; ticks = ticks }
reply_fields (reply.Trapped thread ticks outcome ends) = record (plain_outcome outcome) { thread = thread; ticks = ticks; ends = ends; goes_on = runs_on outcome && not ends }
reply_fields (reply.Refused why) = record blank_reply { reason = refusal_number why }
reply_fields other = blank_reply

-- the reply as a caller in C sees it, whom a kill tells that it is done
abbrev pub seen_reply : Reply → Reply
seen_reply (reply.Killed thread) = reply.Done
seen_reply other = other

-- the reply in plain fields
abbrev pub plain_reply : Reply → PlainReply
plain_reply r = record (reply_fields r) { kind = reply_number r }
