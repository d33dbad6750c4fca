use Rattle.library_tests.proofs.packets.plain_reader.+is_place.Given as goal

abbrev pub decreases-is_place : goal.decreases-is_place
decreases-is_place l = l.place
