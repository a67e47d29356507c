-- The texts that were put into a mailbox, and those that were taken out of it, as a history has them: the oldest first.
use Rattle.std.specs.Prelude.{ℕ, ◌==◌, Bool, true, false, ◌&&◌, Option, Some, None, List, [], ◌∷◌, ◌++◌, length}
use Rattle.uid_names.specs.Names.{ObjectName, ProcName}
use Rattle.uid_names.specs.Openings.{Start}
use Rattle.dom_history.specs.declared.op.Entry.{Entry}
use Rattle.dom_history.specs.declared.op.Op.{Op}
use Rattle.dom_history.specs.declared.op.Op.TheVariants.{Load, Store}
use Rattle.dom_history.specs.declared.op.Reply.{Reply}
use Rattle.dom_history.specs.declared.op.Reply.TheVariants.{Bytes, Fine}
use Rattle.dom_history.specs.Histories.{Item, Answered, Acted, deeds}
use Rattle.dom_history.specs.Mappings.{Target, target}
use Rattle.dom_history.specs.Objects.{is_named}
use Rattle.dom_history.specs.StoreEffects.{StoreEffect, store_effects}
use Rattle.script_reader.specs.declared.command.Command.{Command}
use Rattle.script_reader.specs.declared.command.Command.TheVariants.{Putm, Takem}
use Rattle.script_reader.specs.Scripts.{Content}
use Rattle.mail_box.specs.Boxes.{text_in}
use Rattle.mail_runs.specs.Commands.{command_of, own_in}

-- the object of a place
abbrev pub object_of : Option Target → Option ObjectName
object_of None = None
object_of (Some t) = Some t.uid

-- the object to which a store went that was done
abbrev pub stored_in : Start → List StoreEffect → ProcName → Op → Reply → Option ObjectName
stored_in opening past p (Store spot bytes) Fine = object_of (target opening past p spot)
stored_in opening past p op reply = None

abbrev pub stores_to : Start → List Item → Entry → ObjectName → Bool
stores_to opening past e u = is_named (stored_in opening (store_effects (deeds past)) e.proc e.op e.reply) u

-- of the stores of a putm or takem that of its numbers has 16 bytes; a message has more
abbrev pub stores_numbers : Op → Bool
stores_numbers (Store spot bytes) = length bytes == 16
stores_numbers op = false

-- the text of a putm
abbrev pub text_put : Option Command → Option (List ℕ)
text_put (Some (Putm path text)) = Some text
text_put command = None

-- that of a takem: of the message that its process loaded last
abbrev pub text_loaded : Op → Reply → Option (List ℕ)
text_loaded (Load spot n) (Bytes loaded) = text_in loaded
text_loaded op reply = None

abbrev pub last_loaded : List Entry → Option (List ℕ)
last_loaded [] = None
last_loaded (e ∷ past) = text_loaded e.op e.reply

abbrev pub text_taken : Option Command → List Entry → Option (List ℕ)
text_taken (Some (Takem path)) past = last_loaded past
text_taken command past = None

-- one text more, where its numbers were stored
abbrev pub one_if : Bool → Option (List ℕ) → List (List ℕ)
one_if true (Some text) = text ∷ []
one_if counted text = []

module _ (s : Content) (u : ObjectName) where
  -- the numbers of this mailbox were stored
  abbrev pub counts : List Item → Entry → Bool
  counts past e = stores_to s.opening past e u && stores_numbers e.op

  -- what an entry puts, and what it takes
  abbrev pub put_by : List Item → Entry → List (List ℕ)
  put_by past e = one_if (counts past e) (text_put (command_of s past e))

  abbrev pub taken_by : List Item → Entry → List (List ℕ)
  taken_by past e = one_if (counts past e) (text_taken (command_of s past e) (own_in past e.proc))

  -- all that was put, and all that was taken
  abbrev pub puts : List Item → List (List ℕ)
  puts [] = []
  puts (Answered e ∷ past) = puts past ++ put_by past e
  puts (Acted a ∷ past) = puts past

  abbrev pub takes : List Item → List (List ℕ)
  takes [] = []
  takes (Answered e ∷ past) = takes past ++ taken_by past e
  takes (Acted a ∷ past) = takes past
