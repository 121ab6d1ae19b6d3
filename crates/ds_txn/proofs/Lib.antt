mod Targets
